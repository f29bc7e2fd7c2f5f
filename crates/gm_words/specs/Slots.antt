-- The handles of a part's slots, in the table of a queue that gave them. This project's own rules.
use Rattle.std.specs.Prelude.{ℕ, ◌+◌, ◌&&◌, Bool, true, List, [], ◌∷◌, ◌++◌, Some}
use Rattle.ev_queue.specs.SlotTable.{gave}
use Rattle.ev_queue.specs.declared.slot.Slot.{Slot}
use Rattle.gm_words.specs.Platform.{Part, part_classes}

-- the queue gave the handles of an object's slots from a number on, which have these classes
abbrev pub gave_from : List Slot → ℕ → ℕ → List ℕ → Bool
gave_from table object slot [] = true
gave_from table object slot (c ∷ cs) = gave table object slot c && gave_from table object (slot + 1) cs

-- the slots of an object from a number on, whose handles were given with these classes
abbrev pub given_slots : ℕ → ℕ → List ℕ → List Slot
given_slots object slot [] = []
given_slots object slot (c ∷ cs) =
    record { owner = record { 0 = object }; slot = record { 0 = slot }; class = Some c } ∷ given_slots object (slot + 1) cs

-- the table in which the handles of all slots of the parts from a number on were given
abbrev pub given_table : ℕ → List Part → List Slot
given_table i [] = []
given_table i (p ∷ ps) = given_slots i 0 (part_classes p) ++ given_table (i + 1) ps
