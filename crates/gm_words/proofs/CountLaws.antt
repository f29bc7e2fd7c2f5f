-- What entries add to what was counted.
use Rattle.std.proofs.Common.{◌≡◌, ℕ, zero, suc, ◌+◌, ◌≤◌, refl, ◌∙◌, arith, Bool, true, false, List, [], ◌∷◌, length}
use Rattle.gm_words.specs.Counts.{Counts, AreUpTo, IsCountedUpTo, one_more_at, count_access, count_entry, count_entries}
use Rattle.gm_words.specs.declared.entry.Entry.{Entry}
use Rattle.gm_words.specs.declared.entry.Entry.TheVariants as entries

-- what is counted more
more_at : (n : ℕ) (ks : List ℕ) (i : ℕ) → AreUpTo n ks → AreUpTo (n + 1) (one_more_at ks i)
more_at n [] i h = tt
more_at n (k ∷ ks) zero h = (omega (arith, h.0), more n ks h.1) where
  more : (n : ℕ) (ks : List ℕ) → AreUpTo n ks → AreUpTo (n + 1) ks
  more n [] h = tt
  more n (k ∷ ks) h = (omega (arith, h.0), more n ks h.1)
more_at n (k ∷ ks) (suc i) h = (omega (arith, h.0), more_at n ks i h.1)

at_most : (n m : ℕ) (ks : List ℕ) → n ≤ m → AreUpTo n ks → AreUpTo m ks
at_most n m [] l h = tt
at_most n m (k ∷ ks) l h = (omega (arith, h.0), at_most n m ks l h.1)

-- what is at most n is at most m
pub counted_at_most : (n m : ℕ) (c : Counts) → n ≤ m → IsCountedUpTo n c → IsCountedUpTo m c
counted_at_most n m c l h = record {
  retired = omega (arith, h.retired);
  sleeps = omega (arith, h.sleeps);
  traps = omega (arith, h.traps);
  device_reads = omega (arith, h.device_reads);
  device_writes = omega (arith, h.device_writes);
  ram_reads = omega (arith, h.ram_reads);
  ram_writes = omega (arith, h.ram_writes);
  hits = at_most n m c.hits l h.hits;
  misses = at_most n m c.misses l h.misses;
  refused = at_most n m c.refused l h.refused;
}

counted_access : (n : ℕ) (c : Counts) (device write : Bool) → IsCountedUpTo n c → IsCountedUpTo (n + 1) (count_access c device write)
counted_access n c true true h = let k = counted_at_most n (n + 1) c (omega arith) h in record { retired = k.retired; sleeps = k.sleeps; traps = k.traps; device_reads = k.device_reads; device_writes = omega (arith, h.device_writes); ram_reads = k.ram_reads; ram_writes = k.ram_writes; hits = k.hits; misses = k.misses; refused = k.refused }
counted_access n c true false h = let k = counted_at_most n (n + 1) c (omega arith) h in record { retired = k.retired; sleeps = k.sleeps; traps = k.traps; device_reads = omega (arith, h.device_reads); device_writes = k.device_writes; ram_reads = k.ram_reads; ram_writes = k.ram_writes; hits = k.hits; misses = k.misses; refused = k.refused }
counted_access n c false true h = let k = counted_at_most n (n + 1) c (omega arith) h in record { retired = k.retired; sleeps = k.sleeps; traps = k.traps; device_reads = k.device_reads; device_writes = k.device_writes; ram_reads = k.ram_reads; ram_writes = omega (arith, h.ram_writes); hits = k.hits; misses = k.misses; refused = k.refused }
counted_access n c false false h = let k = counted_at_most n (n + 1) c (omega arith) h in record { retired = k.retired; sleeps = k.sleeps; traps = k.traps; device_reads = k.device_reads; device_writes = k.device_writes; ram_reads = omega (arith, h.ram_reads); ram_writes = k.ram_writes; hits = k.hits; misses = k.misses; refused = k.refused }

counted_entry : (n : ℕ) (c : Counts) (e : Entry) → IsCountedUpTo n c → IsCountedUpTo (n + 1) (count_entry c e)
counted_entry n c (entries.Served src id write addr size bytes device fault) h = counted_access n c device write h
counted_entry n c (entries.Retired pc word) h = let k = counted_at_most n (n + 1) c (omega arith) h in record { retired = omega (arith, h.retired); sleeps = k.sleeps; traps = k.traps; device_reads = k.device_reads; device_writes = k.device_writes; ram_reads = k.ram_reads; ram_writes = k.ram_writes; hits = k.hits; misses = k.misses; refused = k.refused }
counted_entry n c (entries.Trapped cause tval) h = let k = counted_at_most n (n + 1) c (omega arith) h in record { retired = k.retired; sleeps = k.sleeps; traps = omega (arith, h.traps); device_reads = k.device_reads; device_writes = k.device_writes; ram_reads = k.ram_reads; ram_writes = k.ram_writes; hits = k.hits; misses = k.misses; refused = k.refused }
counted_entry n c (entries.Line bit level) h = counted_at_most n (n + 1) c (omega arith) h
counted_entry n c entries.Slept h = let k = counted_at_most n (n + 1) c (omega arith) h in record { retired = k.retired; sleeps = omega (arith, h.sleeps); traps = k.traps; device_reads = k.device_reads; device_writes = k.device_writes; ram_reads = k.ram_reads; ram_writes = k.ram_writes; hits = k.hits; misses = k.misses; refused = k.refused }
counted_entry n c (entries.Hit object) h = let k = counted_at_most n (n + 1) c (omega arith) h in record { retired = k.retired; sleeps = k.sleeps; traps = k.traps; device_reads = k.device_reads; device_writes = k.device_writes; ram_reads = k.ram_reads; ram_writes = k.ram_writes; hits = more_at n c.hits object.0 h.hits; misses = k.misses; refused = k.refused }
counted_entry n c (entries.Miss object) h = let k = counted_at_most n (n + 1) c (omega arith) h in record { retired = k.retired; sleeps = k.sleeps; traps = k.traps; device_reads = k.device_reads; device_writes = k.device_writes; ram_reads = k.ram_reads; ram_writes = k.ram_writes; hits = k.hits; misses = more_at n c.misses object.0 h.misses; refused = k.refused }
counted_entry n c (entries.Refused object) h = let k = counted_at_most n (n + 1) c (omega arith) h in record { retired = k.retired; sleeps = k.sleeps; traps = k.traps; device_reads = k.device_reads; device_writes = k.device_writes; ram_reads = k.ram_reads; ram_writes = k.ram_writes; hits = k.hits; misses = k.misses; refused = more_at n c.refused object.0 h.refused }

pub counted_entries : (n : ℕ) (c : Counts) (es : List Entry) → IsCountedUpTo n c → IsCountedUpTo (n + length es) (count_entries c es)
counted_entries n c [] h = counted_at_most n (n + 0) c (omega arith) h
counted_entries n c (e ∷ es) h = counted_at_most (n + 1 + length es) (n + length (e ∷ es)) (count_entries (count_entry c e) es) (omega arith) (counted_entries (n + 1) (count_entry c e) es (counted_entry n c e h))

same_events_access : (c : Counts) (device write : Bool) → (count_access c device write).events ≡ c.events
same_events_access c true true = refl
same_events_access c true false = refl
same_events_access c false true = refl
same_events_access c false false = refl

same_events_entry : (c : Counts) (e : Entry) → (count_entry c e).events ≡ c.events
same_events_entry c (entries.Served src id write addr size bytes device fault) = same_events_access c device write
same_events_entry c (entries.Retired pc word) = refl
same_events_entry c (entries.Trapped cause tval) = refl
same_events_entry c (entries.Line bit level) = refl
same_events_entry c entries.Slept = refl
same_events_entry c (entries.Hit object) = refl
same_events_entry c (entries.Miss object) = refl
same_events_entry c (entries.Refused object) = refl

pub same_events : (c : Counts) (es : List Entry) → (count_entries c es).events ≡ c.events
same_events c [] = refl
same_events c (e ∷ es) = same_events (count_entry c e) es ∙ same_events_entry c e
