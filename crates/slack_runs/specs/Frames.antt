-- What a function that runs knows.
use Rattle.kern_names.specs.ScopeOf.{program_of}
use Rattle.meaning_frames.specs.declared.frame.Frame.{Frame}
use Rattle.slack_meaning.specs.Expressions.{Callee}
use Rattle.slack_meaning.specs.Programs.{function_call}

-- what its calls do in a run without a core
abbrev pub calls_in : Frame → Callee
calls_in frame = function_call (program_of frame.scope.functions) frame.room
