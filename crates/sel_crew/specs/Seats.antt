-- Places with a right to draw.
use Rattle.std.specs.Prelude.{◌≡◌, Some, List, [], ◌∷◌}
use Rattle.sel_tickets.specs.Tickets.{Roll, new_drawn}
use Rattle.sel_crew.specs.declared.place.Place.{Place}

-- each place has a right to draw of its own
abbrev pub AreDrawing : Roll → List Place → Type 0
AreDrawing roll [] = Unit {0}
AreDrawing roll (p ∷ ps) = (p.drawer ≡ Some (new_drawn roll 0)) × AreDrawing roll ps
