-- What the program's own types of this crate stand for.
use Rattle.kern_names.specs.ScopeOf.{program_of}
use Rattle.core_code_names.specs.declared.setting.Setting.{Setting}
use Rattle.code_forms.specs.Setting as C

-- what the code of a function rests on
abbrev pub setting_of : Setting → C.Setting
setting_of setting =
    record {
      scope = record { program = program_of setting.functions; names = setting.names.now };
      texts = setting.texts.now;
      value = setting.value;
    }
