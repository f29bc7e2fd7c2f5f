-- Counters as contracts see them. This project's own rule.
use Rattle.std.specs.Prelude.{ℕ, ◌<◌, ◌≤◌, Bool, true, false, List, IfSome, length, slice_get}
use Rattle.cfg_tree.specs.declared.config.Config.{Config}
use Rattle.gm_words.specs.Counts.{Counts, no_counts}
use Rattle.gm_words.specs.Platform.{Part, platform}
use Rattle.gm_words.specs.declared.entry.Entry.{Entry}
use Rattle.gm_words.specs.declared.entry.Entry.TheVariants as entries

-- what was counted, the tick since when, the parts of the machine, and how many caches are configured
pub record Counted : Type 0 where
  pub counts : Counts
  pub since : ℕ
  pub parts : List Part
  pub caches : ℕ

-- a part whose path has at most 16 bytes
abbrev pub HasShortPath : Part → Type 0
HasShortPath p = length p.path ≤ 16

-- the counters of a configuration's machine, with these counts since a tick
abbrev pub counted_by : Config → Counts → ℕ → Counted
counted_by c counts tick = record { counts = counts; since = tick; parts = platform c; caches = length c.caches }

-- counters that begin at a tick
abbrev pub begun_at : Config → ℕ → Counted
begun_at c tick = counted_by c (no_counts (length (platform c))) tick

-- the same counters, all 0 since a tick
abbrev pub cleared_at : Counted → ℕ → Counted
cleared_at c tick = record c { counts = no_counts (length c.parts); since = tick }

-- the number at a place is below n, if there is such a place
abbrev pub IsBelowAt : ℕ → List ℕ → ℕ → Type 0
IsBelowAt n ks i = IfSome (slice_get ks i) (λ k. k < n)

-- the counter that an access raises is below n
abbrev pub IsAccessBelow : ℕ → Counts → Bool → Bool → Type 0
IsAccessBelow n c true true = c.device_writes < n
IsAccessBelow n c true false = c.device_reads < n
IsAccessBelow n c false true = c.ram_writes < n
IsAccessBelow n c false false = c.ram_reads < n

-- the counter that an entry raises is below n
abbrev pub IsRaisedBelow : ℕ → Counts → Entry → Type 0
IsRaisedBelow n c (entries.Served src id write addr size bytes device fault) = IsAccessBelow n c device write
IsRaisedBelow n c (entries.Retired pc word) = c.retired < n
IsRaisedBelow n c (entries.Trapped cause tval) = c.traps < n
IsRaisedBelow n c (entries.Line bit level) = Unit {0}
IsRaisedBelow n c entries.Slept = c.sleeps < n
IsRaisedBelow n c (entries.Hit object) = IsBelowAt n c.hits object.0
IsRaisedBelow n c (entries.Miss object) = IsBelowAt n c.misses object.0
IsRaisedBelow n c (entries.Refused object) = IsBelowAt n c.refused object.0
