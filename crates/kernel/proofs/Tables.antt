-- The table of slots while the handles of all parts are given, part by part.
use Rattle.std.proofs.Common.{◌≡◌, ℕ, zero, suc, ◌+◌, ◌<◌, ◌≤◌, ◌==◌, add-one, refl, sym, ◌∙◌, ap, subst, arith, Bool, true, false, cond, if◌then◌else◌, ◌&&◌, ◌||◌, IsTrue, List, [], ◌∷◌, ◌++◌, length, get_or, Some, None}
use Rattle.std.proofs.lemmas.Bool.Decides.{nat_tests}
use Rattle.std.proofs.lemmas.List.{append_assoc}
use Rattle.ev_queue.specs.declared.slot.Slot.{Slot}
use Rattle.ev_queue.specs.SlotTable.{is_slot, has_slot, class_of, is_free, granted, object_slots, all_slots}
use Rattle.ev_queue.specs.Handle.{Handle}
use Rattle.cfg_tree.specs.declared.config.Config.{Config}
use Rattle.gm_words.specs.Platform.{Part, part_classes, platform}
use Rattle.gm_words.specs.PortUses.{used, fore, is_total}
use Rattle.gm_words.specs.Slots.{given_slots, given_table}
use Rattle.obj_core.specs.Handles.{handles_from}
use Rattle.kernel.specs.Build.{AreFew, AreFree, all_granted, slot_counts, added, is_kept, are_kept}

-- both are so
both : (a b : Bool) → (a && b) ≡ true → (a ≡ true) × (b ≡ true)
both true b h = (refl, h)
both false b h = cc h

-- a slot whose handle wasn't given, and one whose handle was
abbrev free_slot : ℕ → ℕ → Slot
free_slot o s = record { owner = record { 0 = o }; slot = record { 0 = s }; class = None }

abbrev given_slot : ℕ → ℕ → ℕ → Slot
given_slot o s c = record { owner = record { 0 = o }; slot = record { 0 = s }; class = Some c }

-- so many slots of an object from a number on, whose handles weren't given
abbrev free_from : ℕ → ℕ → ℕ → List Slot
free_from o s zero = []
free_from o s (suc n) = free_slot o s ∷ free_from o (s + 1) n

free_snoc : (o s n : ℕ) → free_from o s (suc n) ≡ free_from o s n ++ free_slot o (s + n) ∷ []
free_snoc o s zero = let e : s ≡ s + 0 = omega arith in ap (λ t. free_slot o t ∷ []) e
free_snoc o s (suc n) = let e : s + 1 + n ≡ s + suc n = omega arith in
    ap (λ xs. free_slot o s ∷ xs) (free_snoc o (s + 1) n ∙ ap (λ t. free_from o (s + 1) n ++ free_slot o t ∷ []) e)

objects_free : (o n : ℕ) → object_slots o n ≡ free_from o 0 n
objects_free o zero = refl
objects_free o (suc n) = let e : n ≡ 0 + n = omega arith in
    ap (λ xs. xs ++ free_slot o n ∷ []) (objects_free o n) ∙ (ap (λ t. free_from o 0 n ++ free_slot o t ∷ []) e ∙ sym (free_snoc o 0 n))

-- no slot of the object from a number on is there
abbrev NoneFrom : List Slot → ℕ → ℕ → Type 0
NoneFrom xs o s = (t : ℕ) → s ≤ t → has_slot xs o t ≡ false

has_past : (xs ys : List Slot) (o s : ℕ) → has_slot xs o s ≡ false → has_slot (xs ++ ys) o s ≡ has_slot ys o s
has_past [] ys o s h = refl
has_past (x ∷ xs) ys o s h = by (is_slot x o s) (has_past xs ys o s) h where
  by : (b : Bool) → (has_slot xs o s ≡ false → has_slot (xs ++ ys) o s ≡ has_slot ys o s) → (b || has_slot xs o s) ≡ false
      → (b || has_slot (xs ++ ys) o s) ≡ has_slot ys o s
  by true more k = cc k
  by false more k = more k

class_past : (xs ys : List Slot) (o s : ℕ) → has_slot xs o s ≡ false → class_of (xs ++ ys) o s ≡ class_of ys o s
class_past [] ys o s h = refl
class_past (x ∷ xs) ys o s h = by (is_slot x o s) (class_past xs ys o s) h where
  by : (b : Bool) → (has_slot xs o s ≡ false → class_of (xs ++ ys) o s ≡ class_of ys o s) → (b || has_slot xs o s) ≡ false
      → cond b x.class (class_of (xs ++ ys) o s) ≡ class_of ys o s
  by true more k = cc k
  by false more k = more k

granted_past : (xs ys : List Slot) (o s c : ℕ) → has_slot xs o s ≡ false → granted (xs ++ ys) o s c ≡ xs ++ granted ys o s c
granted_past [] ys o s c h = refl
granted_past (x ∷ xs) ys o s c h = by (is_slot x o s) (granted_past xs ys o s c) h where
  by : (b : Bool) → (has_slot xs o s ≡ false → granted (xs ++ ys) o s c ≡ xs ++ granted ys o s c) → (b || has_slot xs o s) ≡ false
      → cond b (record x { class = Some c } ∷ (xs ++ ys)) (x ∷ granted (xs ++ ys) o s c) ≡ x ∷ (xs ++ granted ys o s c)
  by true more k = cc k
  by false more k = ap (λ zs. x ∷ zs) (more k)

-- a slot is the one of its own numbers
own_slot : (o s : ℕ) → ((o == o) && (s == s)) ≡ true
own_slot o s = grind (arith, nat_tests)

-- the handle of the first free slot is given
module _ (G R : List Slot) (o s c n : ℕ) (h : NoneFrom G o s) where
  one_granted : granted (G ++ (free_from o s (suc n) ++ R)) o s c ≡ (G ++ given_slot o s c ∷ []) ++ (free_from o (s + 1) n ++ R)
  one_granted =
      let here : granted (free_from o s (suc n) ++ R) o s c ≡ given_slot o s c ∷ (free_from o (s + 1) n ++ R) = rw (own_slot o s) refl in
      granted_past G (free_from o s (suc n) ++ R) o s c (h s (omega arith)) ∙ (ap (λ xs. G ++ xs) here ∙ sym (append_assoc G (given_slot o s c ∷ []) (free_from o (s + 1) n ++ R)))

  one_free : IsTrue (is_free (G ++ (free_from o s (suc n) ++ R)) o s)
  one_free = rw (has_past G (free_from o s (suc n) ++ R) o s (h s (omega arith)), class_past G (free_from o s (suc n) ++ R) o s (h s (omega arith)), own_slot o s) refl

  none_next : NoneFrom (G ++ given_slot o s c ∷ []) o (s + 1)
  none_next t l = has_past G (given_slot o s c ∷ []) o t (h t (omega (arith, l))) ∙ other o s t (omega (arith, l)) where
    other : (o s t : ℕ) → s < t → (((o == o) && (s == t)) || false) ≡ false
    other o s t l = grind (arith, nat_tests)

-- and so all handles of an object are
all_given : (G R : List Slot) (o s : ℕ) (cs : List ℕ) → NoneFrom G o s → all_granted (G ++ (free_from o s (length cs) ++ R)) o s cs ≡ G ++ (given_slots o s cs ++ R)
all_given G R o s [] h = refl
all_given G R o s (c ∷ cs) h =
    ap (λ t. all_granted t o (s + 1) cs) (one_granted G R o s c (length cs) h)
    ∙ (all_given (G ++ given_slot o s c ∷ []) R o (s + 1) cs (none_next G R o s c (length cs) h)
    ∙ append_assoc G (given_slot o s c ∷ []) (given_slots o (s + 1) cs ++ R))

all_free : (G R : List Slot) (o s : ℕ) (cs : List ℕ) → NoneFrom G o s → AreFree (G ++ (free_from o s (length cs) ++ R)) o s cs
all_free G R o s [] h = tt
all_free G R o s (c ∷ cs) h = (
  one_free G R o s c (length cs) h,
  subst (λ t. AreFree t o (s + 1) cs) (sym (one_granted G R o s c (length cs) h)) (all_free (G ++ given_slot o s c ∷ []) R o (s + 1) cs (none_next G R o s c (length cs) h)),
)

-- slots of one object are of no other
not_given : (i o s t : ℕ) (cs : List ℕ) → i < o → has_slot (given_slots i s cs) o t ≡ false
not_given i o s t [] l = refl
not_given i o s t (c ∷ cs) l = other i o s t (has_slot (given_slots i (s + 1) cs) o t) l (not_given i o (s + 1) t cs l) where
  other : (i o s t : ℕ) (b : Bool) → i < o → b ≡ false → (((i == o) && (s == t)) || b) ≡ false
  other i o s t b l e = rw e (grind (arith, nat_tests))

-- the table of the parts from number i on, where the first n of them have their handles
abbrev pub partly : ℕ → List Part → ℕ → List Slot
partly i [] n = []
partly i (p ∷ ps) zero = all_slots i (slot_counts (p ∷ ps))
partly i (p ∷ ps) (suc n) = given_slots i 0 (part_classes p) ++ partly (i + 1) ps n

pub partly_none : (i : ℕ) (ps : List Part) → partly i ps 0 ≡ all_slots i (slot_counts ps)
partly_none i [] = refl
partly_none i (p ∷ ps) = refl

pub partly_all : (i : ℕ) (ps : List Part) → partly i ps (length ps) ≡ given_table i ps
partly_all i [] = refl
partly_all i (p ∷ ps) = ap (λ xs. given_slots i 0 (part_classes p) ++ xs) (partly_all (i + 1) ps)

-- where the next part begins, its slots are free
first_part : (i : ℕ) (p : Part) (ps : List Part) → partly i (p ∷ ps) 0 ≡ free_from i 0 (length (part_classes p)) ++ all_slots (i + 1) (slot_counts ps)
first_part i p ps = ap (λ xs. xs ++ all_slots (i + 1) (slot_counts ps)) (objects_free i (length (part_classes p)))

none_before : (G : List Slot) (i o : ℕ) (cs : List ℕ) → i < o → NoneFrom G o 0 → NoneFrom (G ++ given_slots i 0 cs) o 0
none_before G i o cs l h t m = has_past G (given_slots i 0 cs) o t (h t m) ∙ not_given i o 0 t cs l

next_given : (G : List Slot) (i n : ℕ) (ps : List Part) (p : Part) → n < length ps → p ≡ get_or ps n p → NoneFrom G (i + n) 0
    → all_granted (G ++ partly i ps n) (i + n) 0 (part_classes p) ≡ G ++ partly i ps (suc n)
next_given G i n [] p l e h = absurd (omega arith)
next_given G i zero (q ∷ qs) p l e h =
    let same : i + 0 ≡ i = omega arith in
    let cs = part_classes q in
    let R = all_slots (i + 1) (slot_counts qs) in
    rw (e, same) (ap (λ xs. all_granted (G ++ xs) i 0 cs) (first_part i q qs)
    ∙ (all_given G R i 0 cs (rw same at h) ∙ ap (λ xs. G ++ (given_slots i 0 cs ++ xs)) (sym (partly_none (i + 1) qs))))
next_given G i (suc n) (q ∷ qs) p l e h =
    let same : i + suc n ≡ i + 1 + n = omega arith in
    let cs = part_classes q in
    let a = append_assoc G (given_slots i 0 cs) (partly (i + 1) qs n) in
    let b = append_assoc G (given_slots i 0 cs) (partly (i + 1) qs (suc n)) in
    rw same (ap (λ xs. all_granted xs (i + 1 + n) 0 (part_classes p)) (sym a)
    ∙ (next_given (G ++ given_slots i 0 cs) (i + 1) n qs p (omega arith) e (none_before G i (i + 1 + n) cs (omega arith) (rw same at h)) ∙ b))

next_free : (G : List Slot) (i n : ℕ) (ps : List Part) (p : Part) → n < length ps → p ≡ get_or ps n p → NoneFrom G (i + n) 0
    → AreFree (G ++ partly i ps n) (i + n) 0 (part_classes p)
next_free G i n [] p l e h = absurd (omega arith)
next_free G i zero (q ∷ qs) p l e h =
    let same : i + 0 ≡ i = omega arith in
    let cs = part_classes q in
    rw (e, same) (subst (λ xs. AreFree (G ++ xs) i 0 cs) (sym (first_part i q qs)) (all_free G (all_slots (i + 1) (slot_counts qs)) i 0 cs (rw same at h)))
next_free G i (suc n) (q ∷ qs) p l e h =
    let same : i + suc n ≡ i + 1 + n = omega arith in
    let cs = part_classes q in
    let a = append_assoc G (given_slots i 0 cs) (partly (i + 1) qs n) in
    rw same (subst (λ xs. AreFree xs (i + 1 + n) 0 (part_classes p)) a
    (next_free (G ++ given_slots i 0 cs) (i + 1) n qs p (omega arith) e (none_before G i (i + 1 + n) cs (omega arith) (rw same at h))))

-- the handles of the part at a place may be given, and once they are the next part's are next
pub place_free : (n : ℕ) (ps : List Part) (p : Part) → n < length ps → p ≡ get_or ps n p → AreFree (partly 0 ps n) n 0 (part_classes p)
place_free n ps p l e = let same : 0 + n ≡ n = omega arith in
    subst (λ o. AreFree (partly 0 ps n) o 0 (part_classes p)) same (next_free [] 0 n ps p l e (λ t m. refl))

pub place_given : (n : ℕ) (ps : List Part) (p : Part) → n < length ps → p ≡ get_or ps n p
    → all_granted (partly 0 ps n) n 0 (part_classes p) ≡ partly 0 ps (n + 1)
place_given n ps p l e = let same : n ≡ 0 + n = omega arith in
    rw add-one (ap (λ o. all_granted (partly 0 ps n) o 0 (part_classes p)) same ∙ next_given [] 0 n ps p l e (λ t m. refl))

-- a handle more where the slot is of the class
module _ (object class slot c : ℕ) (cs : List ℕ) (hs : List Handle) where
  pub handle_more : added object slot c class hs ++ handles_from object class (slot + 1) cs ≡ hs ++ handles_from object class slot (c ∷ cs)
  handle_more = by (c == class) where
    by : (b : Bool) → (if b then hs ++ record { owner = object; slot = slot } ∷ [] else hs) ++ handles_from object class (slot + 1) cs
        ≡ hs ++ (if b then record { owner = object; slot = slot } ∷ handles_from object class (slot + 1) cs else handles_from object class (slot + 1) cs)
    by true = append_assoc hs (record { owner = object; slot = slot } ∷ []) (handles_from object class (slot + 1) cs)
    by false = refl

-- handles are kept of each of the classes
pub kept_at : (cs : List ℕ) (j c : ℕ) → IsTrue (are_kept cs) → j < length cs → c ≡ get_or cs j c → is_kept c ≡ true
kept_at [] j c a l e = absurd (omega arith)
kept_at (x ∷ xs) zero c a l e = rw e (both (is_kept x) (are_kept xs) a).0
kept_at (x ∷ xs) (suc j) c a l e = kept_at xs j c (both (is_kept x) (are_kept xs) a).1 (omega arith) e

-- they are of all classes that the platform has
pub classes_kept : (c : Config) (n : ℕ) (p : Part) → n < length (platform c) → p ≡ get_or (platform c) n p → IsTrue (are_kept (part_classes p))
unfolding used fore is_total
classes_kept c zero p l e = rw e refl
classes_kept c (suc zero) p l e = rw e refl
classes_kept c (suc (suc zero)) p l e = rw e refl
classes_kept c (suc (suc (suc zero))) p l e = rw e refl
classes_kept c (suc (suc (suc (suc zero)))) p l e = rw e refl
classes_kept c (suc (suc (suc (suc (suc zero))))) p l e = rw e refl
classes_kept c (suc (suc (suc (suc (suc (suc zero)))))) p l e = rw e refl
classes_kept c (suc (suc (suc (suc (suc (suc (suc zero))))))) p l e = rw e refl
classes_kept c (suc (suc (suc (suc (suc (suc (suc (suc n)))))))) p l e = absurd (omega (arith, l))

-- and they are few
pub few_classes : (c : Config) → AreFew (platform c)
unfolding used fore is_total
few_classes c = (omega arith, (omega arith, (omega arith, (omega arith, (omega arith, (omega arith, (omega arith, (omega arith, tt))))))))

pub few_at : (ps : List Part) (n : ℕ) (p : Part) → AreFew ps → n < length ps → p ≡ get_or ps n p → length (part_classes p) ≤ 255
few_at [] n p f l e = absurd (omega arith)
few_at (q ∷ qs) zero p f l e = rw e f.0
few_at (q ∷ qs) (suc n) p f l e = few_at qs n p f.1 (omega arith) e
