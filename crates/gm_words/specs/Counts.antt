-- How often what was noted. This project's own rules.
use Rattle.std.specs.Prelude.{ℕ, zero, suc, ◌+◌, ◌≤◌, Bool, true, false, List, [], ◌∷◌, replicate}
use Rattle.gm_words.specs.declared.entry.Entry.{Entry}
use Rattle.gm_words.specs.declared.entry.Entry.TheVariants as entries

-- how often what was noted, of some objects each, and how many events there were
pub record Counts : Type 0 where
  pub retired : ℕ
  pub sleeps : ℕ
  pub traps : ℕ
  pub device_reads : ℕ
  pub device_writes : ℕ
  pub ram_reads : ℕ
  pub ram_writes : ℕ
  pub hits : List ℕ
  pub misses : List ℕ
  pub refused : List ℕ
  pub events : ℕ

-- nothing was noted, for so many objects
abbrev pub no_counts : ℕ → Counts
no_counts objects = record {
  retired = 0;
  sleeps = 0;
  traps = 0;
  device_reads = 0;
  device_writes = 0;
  ram_reads = 0;
  ram_writes = 0;
  hits = replicate objects 0;
  misses = replicate objects 0;
  refused = replicate objects 0;
  events = 0;
}

-- one more at a place
abbrev pub one_more_at : List ℕ → ℕ → List ℕ
one_more_at [] i = []
one_more_at (n ∷ ns) zero = (n + 1) ∷ ns
one_more_at (n ∷ ns) (suc i) = n ∷ one_more_at ns i

-- an access more, by whether it is of a device and whether it writes; refused ones count as the others
abbrev pub count_access : Counts → Bool → Bool → Counts
count_access c true true = record c { device_writes = c.device_writes + 1 }
count_access c true false = record c { device_reads = c.device_reads + 1 }
count_access c false true = record c { ram_writes = c.ram_writes + 1 }
count_access c false false = record c { ram_reads = c.ram_reads + 1 }

-- an entry more
abbrev pub count_entry : Counts → Entry → Counts
count_entry c (entries.Served src id write addr size bytes device fault) = count_access c device write
count_entry c (entries.Retired pc word) = record c { retired = c.retired + 1 }
count_entry c (entries.Trapped cause tval) = record c { traps = c.traps + 1 }
count_entry c (entries.Line bit level) = c
count_entry c entries.Slept = record c { sleeps = c.sleeps + 1 }
count_entry c (entries.Hit object) = record c { hits = one_more_at c.hits object.0 }
count_entry c (entries.Miss object) = record c { misses = one_more_at c.misses object.0 }
count_entry c (entries.Refused object) = record c { refused = one_more_at c.refused object.0 }

-- entries more
abbrev pub count_entries : Counts → List Entry → Counts
count_entries c [] = c
count_entries c (e ∷ es) = count_entries (count_entry c e) es

-- the counts of entries, for so many objects
abbrev pub counts_of : ℕ → List Entry → Counts
counts_of objects es = count_entries (no_counts objects) es

-- one event more, and what it noted
abbrev pub count_event : Counts → List Entry → Counts
count_event c es = let d : Counts = count_entries c es in record d { events = d.events + 1 }

-- each number is at most n
abbrev pub AreUpTo : ℕ → List ℕ → Type 0
AreUpTo n [] = Unit {0}
AreUpTo n (k ∷ ks) = (k ≤ n) × AreUpTo n ks

-- what was counted is at most n of each
pub record IsCountedUpTo (n : ℕ) (c : Counts) : Type 0 where
  pub retired : c.retired ≤ n
  pub sleeps : c.sleeps ≤ n
  pub traps : c.traps ≤ n
  pub device_reads : c.device_reads ≤ n
  pub device_writes : c.device_writes ≤ n
  pub ram_reads : c.ram_reads ≤ n
  pub ram_writes : c.ram_writes ≤ n
  pub hits : AreUpTo n c.hits
  pub misses : AreUpTo n c.misses
  pub refused : AreUpTo n c.refused
