-- RAM where no part has lines of it: its bytes are those of the one part that has them. So memory's laws hold, by what each part owes.
use Rattle.std.proofs.Common.{◌≡◌, ℕ, List, refl, sym, ◌∙◌, ap, subst, false, Option, Some, None, ◌⊎◌, inl, inr, length, get_or}
use Rattle.std.proofs.lemmas.Bool.{cases_eq}
use Rattle.gm_words.specs.Moves.{Moves}
use Rattle.gm_words.specs.declared.entry.Entry.{Entry}
use Rattle.gm_words.specs.declared.kind.Kind.TheVariants as kinds
use Rattle.gm_model.specs.Deliver.{Item}
use Rattle.gm_model.specs.ObjState.{ObjState, Blank}
use Rattle.gm_model.specs.Stepped.{Stepped, Passed}
use Rattle.gm_model.specs.Sys.{Sys, step_at, pass_at, passed}
use Rattle.gm_model.specs.View.{view_ram, program_state, all_packets}
use Rattle.gm_laws.specs.Face.{Face}
use Rattle.gm_laws.specs.Faces.{face_of}
use Rattle.gm_laws.specs.Laws.{done_moves}
use Rattle.gm_laws.specs.Program.{Serves, seen, Recalls}
use Rattle.gm_system.specs.MemoryLaws.{IsElse, MemoryLaws}
use Rattle.gm_system.specs.MemoryView.{MemoryStep, MemoryRests}
use Rattle.gm_system.specs.System.{faces, IsProgram, IsStored, ram_memory}
use Rattle.gm_system.proofs.Packets.{memory_there, blank_memory}
use Rattle.gm_system.proofs.Programs.{state_is}
use Rattle.gm_system.proofs.Thoughts.{state_with}

-- what a load sees is those bytes
pub stored_view : (ram : ℕ) (s : Sys) (h : IsStored ram s) → view_ram s ≡ h.memory
stored_view ram s h = memory_there s.objects h.store (Blank kinds.AtomicCpu) h.memory h.kept blank_memory h.one_store

-- nothing but the parts matters to it
pub same_stored : (ram : ℕ) (s t : Sys) → t.objects ≡ s.objects → IsStored ram s → IsStored ram t
same_stored ram s t e h =
    let at : (os : List ObjState) (k : ℕ) → Face = (λ os k. face_of (get_or os k (Blank kinds.AtomicCpu))) in
    record {
      store = h.store;
      memory = h.memory;
      kept = ap (λ os. (at os h.store).memory) e ∙ h.kept;
      one_store = λ k n. ap (λ os. (at os k).memory) e ∙ h.one_store k n;
      plain = λ k. ap (λ os. (at os k).caches) e ∙ h.plain k;
    }

-- its size, and the program's state over it
pub stored_size : (ram : ℕ) (s : Sys) (items : List Item) (p : IsProgram ram_memory ram s items) → length p.kept.memory ≡ ram
stored_size ram s items p = ap length (sym (stored_view ram s p.kept)) ∙ p.size

pub stored_state : (ram : ℕ) (s : Sys) (items : List Item) (p : IsProgram ram_memory ram s items)
    → program_state s items ≡ state_with s.routes p.mind (all_packets s items) p.kept.memory
stored_state ram s items p = state_is ram_memory ram s items p ∙ ap (state_with s.routes p.mind (all_packets s items)) (stored_view ram s p.kept)

module _ (ram : ℕ) (s t : Sys) (q : ℕ) (g : Face) (h : IsStored ram s) (same : IsElse s t q g) where
  plain_now : (k : ℕ) → (faces t k).caches ≡ false
  plain_now k = same.caches k ∙ h.plain k

  no_store : Some h.memory ≡ None → ⊥
  no_store x = cc

  -- a part that has no bytes, and gets none
  pub store_rests : (faces s q).memory ≡ None → g.memory ≡ None → MemoryRests ram_memory ram s t
  store_rests e f =
      let k : IsStored ram t = record {
        store = h.store;
        memory = h.memory;
        kept = same.memories h.store (λ c. no_store (sym h.kept ∙ (ap (λ j. (faces s j).memory) c ∙ e))) ∙ h.kept;
        one_store = λ j n. others j n (cases_eq j q);
        plain = plain_now;
      } in
      record { kept = k; same = stored_view ram t k ∙ sym (stored_view ram s h) } where
        others : (j : ℕ) → (j ≡ h.store → ⊥) → (j ≡ q) ⊎ (j ≡ q → ⊥) → (faces t j).memory ≡ None
        others j n (inl c) = subst (λ i. (faces t i).memory ≡ None) (sym c) (same.memory ∙ f)
        others j n (inr c) = same.memories j c ∙ h.one_store j n

  -- a part that may have them, and serves
  module _ (es : List Entry) (v : Moves) (size : length (view_ram s) ≡ ram) (k : Recalls s.routes ram (faces s q) g es v) where
    seen_now : seen (faces s q).memory h.memory ≡ h.memory
    seen_now = by (cases_eq q h.store) where
      by : (q ≡ h.store) ⊎ (q ≡ h.store → ⊥) → seen (faces s q).memory h.memory ≡ h.memory
      by (inl e) = ap (λ o. seen o h.memory) (ap (λ j. (faces s j).memory) e ∙ h.kept)
      by (inr n) = ap (λ o. seen o h.memory) (h.one_store q n)

    others : (j : ℕ) → (j ≡ h.store → ⊥) → (j ≡ q) ⊎ (j ≡ q → ⊥) → (faces t j).memory ≡ None
    others j d (inl c) = subst (λ i. (faces t i).memory ≡ None) (sym c) (same.memory ∙ k.stays (h.one_store q (λ e. d (c ∙ e))))
    others j d (inr c) = same.memories j c ∙ h.one_store j d

    some_seen : (o : Option (List ℕ)) → (o ≡ None → ⊥) → o ≡ Some (seen o h.memory)
    some_seen None n = absurd (n refl)
    some_seen (Some x) n = refl

    kept : (h.store ≡ q) ⊎ (h.store ≡ q → ⊥) → (faces t h.store).memory ≡ Some (seen g.memory h.memory)
    kept (inl c) =
        ap (λ j. (faces t j).memory) c ∙ (same.memory ∙ some_seen g.memory (λ z. no_store (sym h.kept ∙ (ap (λ j. (faces s j).memory) c ∙ k.remains z))))
    kept (inr c) = same.memories h.store c ∙ (h.kept ∙ ap (λ o. Some (seen o h.memory)) (sym (k.stays (h.one_store q (λ e. c (sym e))))))

    pub store_serves : MemoryStep ram_memory s.routes ram s t v.served es
    store_serves =
        let l : IsStored ram t = record {
          store = h.store;
          memory = seen g.memory h.memory;
          kept = kept (cases_eq h.store q);
          one_store = λ j d. others j d (cases_eq j q);
          plain = plain_now;
        } in
        let now : length h.memory ≡ ram = ap length (sym (stored_view ram s h)) ∙ size in
        record {
          kept = l;
          serves = subst (λ (n : List ℕ). Serves s.routes n v.served es (view_ram t)) (sym (stored_view ram s h))
              (subst (λ (n : List ℕ). Serves s.routes h.memory v.served es n) (sym (stored_view ram t l)) (k.serves h.memory now seen_now));
        }

-- memory's laws, for any parts that meet their own
pub ram_laws : MemoryLaws ram_memory
ram_laws = record {
  serves = λ ram m s t i w a k.
      (let r : Stepped = step_at s i w in store_serves ram s t i (face_of r.state) a.kept a.same r.entries r.moves a.size (k.recalls (a.kept.plain i)));
  rests = λ ram m s t i w a k. store_rests ram s t i (face_of (step_at s i w).state) a.kept a.same k.memory.0 k.memory.1;
  passes = λ ram s k x a m.
      (let v : Passed = pass_at s k x in store_serves ram s (passed s k x) k (face_of v.state) a.kept a.same v.entries (done_moves x v) a.size (m.recalls (a.kept.plain k)));
  timed = λ ram s n t h. record { kept = same_stored ram s _ refl h; same = refl };
}
