-- What the calls of a function that runs mean.
use Rattle.kern_names.specs.ScopeOf.{program_of}
use Rattle.meaning_frames.specs.declared.frame.Frame.{Frame}
use Rattle.timeline_sem.specs.Expressions.{Callee}
use Rattle.timeline_sem.specs.Programs.{function_call}

abbrev pub calls_in : Frame → Callee
calls_in frame = function_call (program_of frame.scope.functions) frame.room
