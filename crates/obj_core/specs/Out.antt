-- An outbox as contracts see it. This project's own rule.
use Rattle.std.specs.Prelude.{◌≡◌, ℕ, ◌+◌, ◌^◌, ◌<◌, ◌≤◌, List, [], ◌∷◌, ◌++◌, length, drop, map}
use Rattle.gm_model.specs.Deliver.{Item, Sent, Done, sent_by}
use Rattle.gm_words.specs.declared.act.Act.{Act}
use Rattle.gm_words.specs.declared.entry.Entry.{Entry}
use Rattle.obj_core.specs.declared.item.Item.{Item as KeptItem}
use Rattle.obj_core.specs.declared.item.Item.TheVariants as kept

-- an item as the model has it
abbrev pub item_of : KeptItem → Item
item_of (kept.Sent sender act) = Sent sender.0 act
item_of (kept.Done sender pkt latency) = Done sender.0 pkt latency

-- the items that are left once so many were taken out
abbrev pub items_from : ℕ → List KeptItem → List Item
items_from taken items = map item_of (drop taken items)

-- the part that is being called, what is to be delivered, first in, first out, the entries, oldest first, and the next
-- packet number
pub record Out : Type 0 where
  pub sender : ℕ
  pub items : List Item
  pub entries : List Entry
  pub next : ℕ

-- with nothing in it
abbrev pub empty_outbox : Out
empty_outbox = record { sender = 0; items = []; entries = []; next = 0 }

-- with acts of the sender and entries behind the others, and this next packet number
abbrev pub extended : Out → List Act → List Entry → ℕ → Out
extended o acts entries next = record { sender = o.sender; items = o.items ++ sent_by o.sender acts; entries = o.entries ++ entries; next = next }

-- there is room for what one call asks for, notes and draws: 16 of each
pub record HasRoom (o : Out) : Type 0 where
  pub items : length o.items + 16 ≤ 272
  pub entries : length o.entries + 16 ≤ 528
  pub numbers : o.next + 16 < 2 ^ 64

-- of so many items at most all were taken out, and with these capacities no item and no entry needs memory
pub record NeedsNoMemory (count taken items entries : ℕ) : Type 0 where
  pub within : taken ≤ count
  pub for_items : 544 ≤ items
  pub for_entries : 528 ≤ entries
