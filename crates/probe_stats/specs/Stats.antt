-- The statistics: the counters by name, as lines of text and as one JSON object. This project's own rules.
use Rattle.std.specs.Prelude.{ℕ, ◌-◌, if◌then◌else◌, List, [], ◌∷◌, ◌++◌, map, take, codes, decimal}
use Rattle.std.specs.List.{concat}
use Rattle.std.specs.Str.{bytes_eq}
use Rattle.gm_words.specs.Platform.{Part}
use Rattle.serde_json.specs.Data.{number, unsigned, object, Members, no_members, member}
use Rattle.serde_json.specs.Written.{compact_text}
use Rattle.probe_stats.specs.Counted.{Counted}

-- the name of a counter, and its number
pub record Pair : Type 0 where
  pub name : List ℕ
  pub number : ℕ

abbrev pub pair : List ℕ → ℕ → Pair
pair name n = record { name = name; number = n }

-- the count of the part with this path, or 0 where there is no such part
abbrev pub count_at : List Part → List ℕ → List ℕ → ℕ
count_at [] counts path = 0
count_at (p ∷ ps) [] path = 0
count_at (p ∷ ps) (n ∷ counts) path = if bytes_eq p.path path then n else count_at ps counts path

-- how often the part with this path refused an offer
abbrev pub refused_by : Counted → List ℕ → ℕ
refused_by c path = count_at c.parts c.counts.refused path

-- the pairs of the cache with this path
abbrev pub cache_pairs : Counted → List ℕ → List Pair
cache_pairs c path =
    pair (path ++ codes ".hits") (count_at c.parts c.counts.hits path)
    ∷ pair (path ++ codes ".misses") (count_at c.parts c.counts.misses path)
    ∷ pair (path ++ codes ".refused") (refused_by c path)
    ∷ []

-- the paths that caches have, from the one next to the CPU on
abbrev pub cache_paths : List (List ℕ)
cache_paths = codes "cache1" ∷ codes "cache2" ∷ codes "cache3" ∷ []

-- the pairs of the caches with these paths
abbrev pub caches_pairs : Counted → List (List ℕ) → List Pair
caches_pairs c [] = []
caches_pairs c (path ∷ paths) = cache_pairs c path ++ caches_pairs c paths

-- the pairs of all machines, at a tick
abbrev pub machine_pairs : Counted → ℕ → List Pair
machine_pairs c now =
    pair (codes "corebus.refused") (refused_by c (codes "corebus"))
    ∷ pair (codes "cpu.retired") c.counts.retired
    ∷ pair (codes "cpu.sleeps") c.counts.sleeps
    ∷ pair (codes "cpu.traps") c.counts.traps
    ∷ pair (codes "device.reads") c.counts.device_reads
    ∷ pair (codes "device.writes") c.counts.device_writes
    ∷ pair (codes "mem.refused") (refused_by c (codes "mem"))
    ∷ pair (codes "membus.refused") (refused_by c (codes "membus"))
    ∷ pair (codes "ram.reads") c.counts.ram_reads
    ∷ pair (codes "ram.writes") c.counts.ram_writes
    ∷ pair (codes "sim.events") c.counts.events
    ∷ pair (codes "sim.ticks") (now - c.since)
    ∷ []

-- the statistics at a tick: the pairs of the configured caches, and those of all machines
abbrev pub stats_pairs : Counted → ℕ → List Pair
stats_pairs c now = caches_pairs c (take c.caches cache_paths) ++ machine_pairs c now

-- the line of a pair
abbrev pub stats_line : Pair → List ℕ
stats_line p = p.name ++ codes " " ++ decimal p.number ++ codes "\n"

-- the lines of pairs
abbrev pub stats_text : List Pair → List ℕ
stats_text ps = concat (map stats_line ps)

-- the members of the JSON object of pairs
abbrev pub members_of : List Pair → Members
members_of [] = no_members
members_of (p ∷ ps) = member p.name (number (unsigned p.number)) (members_of ps)

-- the JSON object of pairs, with no space
abbrev pub json_text : List Pair → List ℕ
json_text ps = compact_text (object (members_of ps))
