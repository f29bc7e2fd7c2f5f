-- What a store and two sinks tell at one moment. Source: this project's own rule.
use Rattle.std.specs.Prelude.{◌≡◌, ℕ, ◌≤◌, List, Option}
use Rattle.gc_outside.specs.Faults.{Rose}
use Rattle.gc_outside.specs.Sinks.{Sinks, sinks}
use Rattle.gc_outside.specs.Store.{Files}
use Rattle.gc_outside.specs.declared.sink.Sink.{Ghosts as SinkGhosts}
use Rattle.gc_outside.specs.declared.store.Store.{Ghosts as StoreGhosts}

-- a store: its files, where it tells them, the file whose put is open, and how many of its calls failed
pub record StoreSeen : Type 0 where
  pub files : Option Files
  pub open_put : Option (List ℕ)
  pub faults : ℕ

-- all that a call of the program works with
pub record Outside : Type 0 where
  pub store : StoreSeen
  pub sinks : Sinks

abbrev pub store_seen : {S : Type 0} → StoreGhosts S → S → StoreSeen
store_seen g store = record { files = g.files store; open_put = g.open_put store; faults = g.faults store }

abbrev pub outside : {S C R : Type 0} → StoreGhosts S → SinkGhosts C → SinkGhosts R → S → C → R → Outside
outside s c r store console report = record { store = store_seen s store; sinks = sinks c r console report }

-- the store failed
abbrev pub StoreFailed : StoreSeen → StoreSeen → Type 0
StoreFailed old new = Rose old.faults new.faults

-- its files stand as before, and so does the open put
pub record SameStore (old new : StoreSeen) : Type 0 where
  pub files : new.files ≡ old.files
  pub open_put : new.open_put ≡ old.open_put

-- the store was read at most: whether a count of faults rose or not
pub record OnlyReads (old new : StoreSeen) : Type 0 where
  pub same : SameStore old new
  pub count : old.faults ≤ new.faults
