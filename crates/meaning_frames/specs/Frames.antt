-- What a function that runs knows.
use Rattle.kern_calls.specs.Types.{Scope}
use Rattle.kern_names.specs.ScopeOf.{scope_of}
use Rattle.meaning_frames.specs.declared.frame.Frame.{Frame}

-- its scope
abbrev pub scope_in : Frame → Scope
scope_in frame = scope_of frame.scope
