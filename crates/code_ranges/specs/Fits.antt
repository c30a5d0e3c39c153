-- What a function rests on is no more than the fields of its code hold.
use Rattle.std.specs.Prelude.{◌≡◌, ◌≤◌, ◌<◌, ◌^◌, length, Some}
use Rattle.kern_syntax.specs.Tree.{Bytes, FunctionTree}
use Rattle.kern_calls.specs.Types.{function_named}
use Rattle.code_forms.specs.Setting.{Setting, slots_of_names}

-- functions, each with at most 8 parameters, the slots of the names, and the texts
pub record SettingFits (setting : Setting) : Type 0 where
  pub functions : length setting.scope.program ≤ 256
  pub parameters : (name : Bytes) (f : FunctionTree) → function_named setting.scope.program name ≡ Some f → length f.parameters ≤ 8
  pub slots : slots_of_names setting.scope.names < 2 ^ 16
  pub texts : length setting.texts < 2 ^ 16
