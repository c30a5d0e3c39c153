-- What stands round a statement, as the definitions of the code have it.
use Rattle.code_forms.specs.StatementCode as C
use Rattle.core_code_simple.specs.declared.inside.Inside.{Inside}
use Rattle.core_code_simple.specs.declared.inside.LoopPlaces.{LoopPlaces}

-- the places of a loop
abbrev pub places_of : LoopPlaces → C.LoopPlaces
places_of places = record { again = places.again; past = places.past; tries = places.tries }

-- what stands round a statement
abbrev pub inside_of : Inside → C.Inside
inside_of inside = record { mark = inside.mark; free = inside.free; loop = places_of inside.enclosing }
