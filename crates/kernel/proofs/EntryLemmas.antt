-- Counting the entries of an event, one by one.
use Rattle.std.proofs.Common.{◌≡◌, ℕ, zero, suc, Bool, true, false, ◌+◌, ◌<◌, arith, add-one, sym, ap, ◌∙◌, subst, List, [], ◌∷◌, length, drop, get_or}
use Rattle.std.proofs.Math.Seq.{drop-cons}
use Rattle.gm_words.specs.Counts.{Counts, AreUpTo, count_entry, count_entries, IsCountedUpTo}
use Rattle.gm_words.specs.declared.entry.Entry.{Entry}
use Rattle.gm_words.proofs.CountLaws.{counted_at_most, counted_entries, same_events}
use Rattle.gm_words.specs.declared.entry.Entry.TheVariants as entries
use Rattle.probe_stats.specs.Counted.{Counted, IsBelowAt, IsAccessBelow, IsRaisedBelow}

module _ (es : List Entry) (i : ℕ) (x : Entry) (c d : Counted) (here : i < length es)
    (noted : d ≡ record c { counts = count_entry c.counts (get_or es i x) }) where
  pub counted_same : (all : Counts) → count_entries c.counts (drop i es) ≡ all → count_entries d.counts (drop (i + 1) es) ≡ all
  counted_same all h =
      let P : List Entry → Type 0 = λ ys. count_entries c.counts ys ≡ all in
      let first : drop i es ≡ get_or es i x ∷ drop (i + 1) es = rw add-one (drop-cons es i x here) in
      rw noted (subst P first h)

  pub counted_most : (n : ℕ) → IsCountedUpTo (n + i) c.counts → IsCountedUpTo (n + (i + 1)) d.counts
  counted_most n h =
      let e : Entry = get_or es i x in
      rw noted (counted_at_most (n + i + length (e ∷ [])) (n + (i + 1)) (count_entry c.counts e) (omega arith) (counted_entries (n + i) c.counts (e ∷ []) h))

  pub counted_kept : (old : Counted) → c ≡ record old { counts = c.counts } → d ≡ record old { counts = d.counts }
  counted_kept old h =
      let k : Counts = count_entry c.counts (get_or es i x) in
      noted ∙ (ap (λ (y : Counted). record y { counts = k }) h ∙ ap (λ (n : Counts). record old { counts = n }) (sym (ap (λ (y : Counted). y.counts) noted)))

  pub counted_events : d.counts.events ≡ c.counts.events
  counted_events = rw noted (same_events c.counts (get_or es i x ∷ []))

-- where each counter is at most n, the one that is raised is below a larger number
module _ (n m : ℕ) (l : n < m) where
  below_at : (ks : List ℕ) (i : ℕ) → AreUpTo n ks → IsBelowAt m ks i
  below_at [] i h = tt
  below_at (k ∷ ks) zero h = omega (arith, h.0, l)
  below_at (k ∷ ks) (suc i) h = below_at ks i h.1

  access_below : (c : Counts) (device write : Bool) → IsCountedUpTo n c → IsAccessBelow m c device write
  access_below c true true h = omega (arith, h.device_writes, l)
  access_below c true false h = omega (arith, h.device_reads, l)
  access_below c false true h = omega (arith, h.ram_writes, l)
  access_below c false false h = omega (arith, h.ram_reads, l)

  pub raised_below : (c : Counts) (e : Entry) → IsCountedUpTo n c → IsRaisedBelow m c e
  raised_below c (entries.Served src id write addr size bytes device fault) h = access_below c device write h
  raised_below c (entries.Retired pc word) h = omega (arith, h.retired, l)
  raised_below c (entries.Trapped cause tval) h = omega (arith, h.traps, l)
  raised_below c (entries.Line bit level) h = tt
  raised_below c entries.Slept h = omega (arith, h.sleeps, l)
  raised_below c (entries.Hit object) h = below_at c.hits object.0 h.hits
  raised_below c (entries.Miss object) h = below_at c.misses object.0 h.misses
  raised_below c (entries.Refused object) h = below_at c.refused object.0 h.refused
