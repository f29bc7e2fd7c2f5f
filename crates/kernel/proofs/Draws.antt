-- Parts are taken out of those that are there, for each row of the platform one, and then configured one after another.
use Rattle.std.proofs.Common.{◌≡◌, ℕ, zero, suc, ◌+◌, ◌<◌, ◌≤◌, ◌==◌, nat_lt, add-one, refl, sym, ◌∙◌, ap, subst, arith, Bool, true, false, cond, ◌||◌, if◌then◌else◌, List, [], ◌∷◌, ◌++◌, length, map, drop, get_or, set, remove, Some, None}
use Rattle.std.proofs.Math.Seq.{drop-cons}
use Rattle.std.proofs.lemmas.Bool.Decides.{nat_tests}
use Rattle.std.proofs.lemmas.List.{get_or-map, length-map, map-set}
use Rattle.cfg_tree.specs.declared.config.Config.{Config}
use Rattle.cfg_tree.specs.Valid.{IsValidConfig}
use Rattle.gm_words.specs.Allowed.{IsAllowed}
use Rattle.gm_words.specs.Kind.{kind_of_own}
use Rattle.gm_words.specs.Platform.{Part, platform}
use Rattle.gm_words.specs.declared.kind.Kind.{Kind}
use Rattle.gm_words.specs.declared.kind.Kind.TheVariants as kinds
use Rattle.gm_model.specs.ObjState.{ObjState, Blank, AtomicCpu, TimingCpu, Xbar, Server, Device, Memory, Uart, Exit, Timer, kind_of, IsBlank}
use Rattle.gm_model.specs.Start.{params_of, start_state, built_object, built_objects, cpu_started, ram_loaded}
use Rattle.rv_step.specs.FlatMem.{ram_base}
use Rattle.kernel.specs.Build.{rank_of, parts_of, rows_of, all_kinds, is_lacking, first_lacking, lacking, AreBlank, AreDrawn, AreEnough, IsPart, configured, all_configured, standing}

-- the kind of a rank
abbrev kind_at : ℕ → Kind
kind_at zero = kinds.AtomicCpu
kind_at (suc zero) = kinds.TimingCpu
kind_at (suc (suc zero)) = kinds.Xbar
kind_at (suc (suc (suc zero))) = kinds.Cache
kind_at (suc (suc (suc (suc zero)))) = kinds.Mem
kind_at (suc (suc (suc (suc (suc zero))))) = kinds.Uart
kind_at (suc (suc (suc (suc (suc (suc zero)))))) = kinds.Timer
kind_at (suc (suc (suc (suc (suc (suc (suc zero))))))) = kinds.Exit
kind_at (suc (suc (suc (suc (suc (suc (suc (suc n)))))))) = kinds.Dma

kind_back : (k : Kind) → kind_at (rank_of k) ≡ k
kind_back kinds.AtomicCpu = refl
kind_back kinds.TimingCpu = refl
kind_back kinds.Xbar = refl
kind_back kinds.Cache = refl
kind_back kinds.Mem = refl
kind_back kinds.Uart = refl
kind_back kinds.Timer = refl
kind_back kinds.Exit = refl
kind_back kinds.Dma = refl

same_kind : (a b : Kind) → rank_of a ≡ rank_of b → a ≡ b
same_kind a b e = sym (kind_back a) ∙ (ap kind_at e ∙ kind_back b)

-- where no kind is lacking there are enough parts of each
not_lacking : (c : Config) (ss : List ObjState) (k : Kind) (ks : List Kind) → first_lacking c ss (k ∷ ks) ≡ None → (is_lacking c ss k ≡ false) × (first_lacking c ss ks ≡ None)
not_lacking c ss k ks h = by (is_lacking c ss k) refl h where
  by : (b : Bool) → is_lacking c ss k ≡ b → cond b (Some k) (first_lacking c ss ks) ≡ None → (is_lacking c ss k ≡ false) × (first_lacking c ss ks ≡ None)
  by true e m = cc m
  by false e m = (e, m)

of_each : (c : Config) (ss : List ObjState) → lacking c ss ≡ None → (k : Kind) → is_lacking c ss k ≡ false
of_each c ss h k =
    let a = not_lacking c ss kinds.AtomicCpu (kinds.TimingCpu ∷ kinds.Xbar ∷ kinds.Cache ∷ kinds.Mem ∷ kinds.Uart ∷ kinds.Timer ∷ kinds.Exit ∷ kinds.Dma ∷ []) h in
    let b = not_lacking c ss kinds.TimingCpu (kinds.Xbar ∷ kinds.Cache ∷ kinds.Mem ∷ kinds.Uart ∷ kinds.Timer ∷ kinds.Exit ∷ kinds.Dma ∷ []) a.1 in
    let d = not_lacking c ss kinds.Xbar (kinds.Cache ∷ kinds.Mem ∷ kinds.Uart ∷ kinds.Timer ∷ kinds.Exit ∷ kinds.Dma ∷ []) b.1 in
    let e = not_lacking c ss kinds.Cache (kinds.Mem ∷ kinds.Uart ∷ kinds.Timer ∷ kinds.Exit ∷ kinds.Dma ∷ []) d.1 in
    let f = not_lacking c ss kinds.Mem (kinds.Uart ∷ kinds.Timer ∷ kinds.Exit ∷ kinds.Dma ∷ []) e.1 in
    let g = not_lacking c ss kinds.Uart (kinds.Timer ∷ kinds.Exit ∷ kinds.Dma ∷ []) f.1 in
    let i = not_lacking c ss kinds.Timer (kinds.Exit ∷ kinds.Dma ∷ []) g.1 in
    let j = not_lacking c ss kinds.Exit (kinds.Dma ∷ []) i.1 in
    let l = not_lacking c ss kinds.Dma [] j.1 in
    by a.0 b.0 d.0 e.0 f.0 g.0 i.0 j.0 l.0 k where
      by : is_lacking c ss kinds.AtomicCpu ≡ false → is_lacking c ss kinds.TimingCpu ≡ false → is_lacking c ss kinds.Xbar ≡ false → is_lacking c ss kinds.Cache ≡ false
          → is_lacking c ss kinds.Mem ≡ false → is_lacking c ss kinds.Uart ≡ false → is_lacking c ss kinds.Timer ≡ false → is_lacking c ss kinds.Exit ≡ false
          → is_lacking c ss kinds.Dma ≡ false → (k : Kind) → is_lacking c ss k ≡ false
      by a b d e f g i j l kinds.AtomicCpu = a
      by a b d e f g i j l kinds.TimingCpu = b
      by a b d e f g i j l kinds.Xbar = d
      by a b d e f g i j l kinds.Cache = e
      by a b d e f g i j l kinds.Mem = f
      by a b d e f g i j l kinds.Uart = g
      by a b d e f g i j l kinds.Timer = i
      by a b d e f g i j l kinds.Exit = j
      by a b d e f g i j l kinds.Dma = l

-- a kind that isn't lacking is passed over
pub lacking_next : (c : Config) (ss : List ObjState) (i : ℕ) (d : Kind) → i < 9 → is_lacking c ss (get_or all_kinds i d) ≡ false
    → first_lacking c ss (drop (i + 1) all_kinds) ≡ first_lacking c ss (drop i all_kinds)
lacking_next c ss i d l n =
    let first : drop i all_kinds ≡ get_or all_kinds i d ∷ drop (i + 1) all_kinds = rw add-one (drop-cons all_kinds i d l) in
    sym (ap (λ ks. first_lacking c ss ks) first ∙ rw n refl)

or_false : (a b : Bool) → (a || b) ≡ false → (a ≡ false) × (b ≡ false)
or_false true b h = cc h
or_false false b h = (refl, h)

not_less : (n m : ℕ) → nat_lt n m ≡ false → m ≤ n
not_less n m h = grind (arith, nat_tests, h)

pub enough_parts : (c : Config) (ss : List ObjState) → lacking c ss ≡ None → AreEnough ss (platform c)
enough_parts c ss h k = not_less (parts_of k ss) (rows_of k (platform c)) (or_false _ _ (of_each c ss h k)).1

-- a part of a list, and the others
abbrev one_if : Bool → ℕ
one_if b = if b then 1 else 0

module _ {X : Type 0} (f : X → ObjState) where
  parts_removed : (k : Kind) (xs : List X) (i : ℕ) (d : X) → i < length xs
      → parts_of k (map f xs) ≡ one_if (rank_of (kind_of (f (get_or xs i d))) == rank_of k) + parts_of k (map f (remove xs i))
  parts_removed k [] i d h = absurd (omega arith)
  parts_removed k (x ∷ xs) zero d h = refl
  parts_removed k (x ∷ xs) (suc i) d h = omega (arith, parts_removed k xs i d (omega arith))

  pub blank_removed : (xs : List X) (i : ℕ) → i < length xs → AreBlank (map f xs) → AreBlank (map f (remove xs i))
  blank_removed [] i h b = absurd (omega arith)
  blank_removed (x ∷ xs) zero h b = b.1
  blank_removed (x ∷ xs) (suc i) h b = (b.0, blank_removed xs i (omega arith) b.1)

  blank_at : (xs : List X) (i : ℕ) (d : X) → i < length xs → AreBlank (map f xs) → IsBlank (f (get_or xs i d))
  blank_at [] i d h b = absurd (omega arith)
  blank_at (x ∷ xs) zero d h b = b.0
  blank_at (x ∷ xs) (suc i) d h b = blank_at xs i d (omega arith) b.1

  module _ (kind : Kind) (xs : List X) (i : ℕ) (x : X) (h : i < length xs) (e : x ≡ get_or xs i x) where
    pub part_taken : rank_of (kind_of (get_or (map f xs) i (Blank kind))) ≡ rank_of kind → AreBlank (map f xs) → IsPart kind (f x)
    part_taken r b = record {
      kind = same_kind (kind_of (f x)) kind (ap (λ (s : ObjState). rank_of (kind_of s)) (ap f e ∙ sym (get_or-map f xs i x (Blank kind) h)) ∙ r);
      blank = subst (λ (y : X). IsBlank (f y)) (sym e) (blank_at xs i x h b);
    }

    pub others_kept : (k : Kind) → parts_of k (map f xs) ≡ parts_of k (f x ∷ map f (remove xs i))
    others_kept k = parts_removed k xs i x h ∙ ap (λ (y : X). one_if (rank_of (kind_of (f y)) == rank_of k) + parts_of k (map f (remove xs i))) (sym e)

-- a part more at the end
pub map_snoc : {X : Type 0} (f : X → ObjState) (xs ys : List X) (b : X) → ys ≡ xs ++ b ∷ [] → map f ys ≡ map f xs ++ f b ∷ []
map_snoc {X = X} f xs ys b e = ap (λ zs. map f zs) e ∙ more xs where
  more : (xs : List X) → map f (xs ++ b ∷ []) ≡ map f xs ++ f b ∷ []
  more [] = refl
  more (x ∷ xs) = ap (λ os. f x ∷ os) (more xs)

-- what is counted of a list from a place on
module _ {X : Type 0} (f : X → ObjState) (k : Kind) (xs : List X) (i : ℕ) (b : X) (here : i < length xs) (is : b ≡ get_or xs i b) where
  pub parts_next : parts_of k (drop i (map f xs)) ≡ one_if (rank_of (kind_of (f b)) == rank_of k) + parts_of k (drop (i + 1) (map f xs))
  parts_next =
      let first : drop i (map f xs) ≡ f b ∷ drop (i + 1) (map f xs) =
      rw add-one (drop-cons (map f xs) i (f b) (rw length-map here) ∙ ap (λ o. o ∷ drop (suc i) (map f xs)) (get_or-map f xs i b (f b) here ∙ sym (ap f is))) in
      ap (λ os. parts_of k os) first

module _ (k : Kind) (ps : List Part) (i : ℕ) (p : Part) (here : i < length ps) (is : p ≡ get_or ps i p) where
  pub rows_next : rows_of k (drop i ps) ≡ one_if (rank_of (kind_of_own p.own) == rank_of k) + rows_of k (drop (i + 1) ps)
  rows_next =
      let first : drop i ps ≡ p ∷ drop (i + 1) ps = rw add-one (drop-cons ps i p here ∙ ap (λ o. o ∷ drop (suc i) ps) (sym is)) in
      ap (λ os. rows_of k os) first

-- there is a part for the next row, and once it is taken there are enough for the others
own_kind : (k : Kind) → (rank_of k == rank_of k) ≡ true
own_kind k = same_is (rank_of k) where
  same_is : (n : ℕ) → (n == n) ≡ true
  same_is n = grind (arith, nat_tests)

pub one_there : (k : Kind) (p : Part) (ss : List ObjState) (ps rest : List Part) → ps ≡ p ∷ rest → k ≡ kind_of_own p.own → AreEnough ss ps → 1 ≤ parts_of k ss
one_there k p ss ps rest e m h =
    let here : rows_of k ps ≡ 1 + rows_of k rest = ap (λ qs. rows_of k qs) e ∙ rw (sym m, own_kind k) refl in
    omega (arith, here, h k)

pub enough_left : (j : Kind) (p : Part) (s : ObjState) (before after : List ObjState) (ps rest : List Part) → ps ≡ p ∷ rest → j ≡ kind_of_own p.own → IsPart j s
    → ((k : Kind) → parts_of k before ≡ parts_of k (s ∷ after)) → AreEnough before ps → AreEnough after rest
enough_left j p s before after ps rest e m is same h k =
    let there : rows_of k ps ≡ one_if (rank_of (kind_of_own p.own) == rank_of k) + rows_of k rest = ap (λ qs. rows_of k qs) e in
    let kinds_agree : kind_of s ≡ kind_of_own p.own = is.kind ∙ m in
    let more : parts_of k before ≡ one_if (rank_of (kind_of_own p.own) == rank_of k) + parts_of k after =
    same k ∙ ap (λ (q : Kind). one_if (rank_of q == rank_of k) + parts_of k after) kinds_agree in
    omega (arith, there, more, h k)

-- the parts that were drawn go with the first rows
abbrev pub DrawnSoFar : List ObjState → List Part → Type 0
DrawnSoFar [] ps = Unit {0}
DrawnSoFar (s ∷ ss) [] = ⊥
DrawnSoFar (s ∷ ss) (p ∷ ps) = IsPart (kind_of_own p.own) s × DrawnSoFar ss ps

pub drawn_more : (ss : List ObjState) (ps : List Part) (s : ObjState) (p : Part) (n : ℕ) → length ss ≡ n → n < length ps → p ≡ get_or ps n p
    → IsPart (kind_of_own p.own) s → DrawnSoFar ss ps → DrawnSoFar (ss ++ s ∷ []) ps
drawn_more [] [] s p n m l e k h = absurd (omega (arith, l))
drawn_more [] (q ∷ qs) s p zero m l e k h = (subst (λ (x : Part). IsPart (kind_of_own x.own) s) e k, tt)
drawn_more [] (q ∷ qs) s p (suc n) m l e k h = absurd (omega (arith, m))
drawn_more (t ∷ ss) [] s p n m l e k h = absurd h
drawn_more (t ∷ ss) (q ∷ qs) s p zero m l e k h = absurd (omega (arith, m))
drawn_more (t ∷ ss) (q ∷ qs) s p (suc n) m l e k h = (h.0, drawn_more ss qs s p n (omega (arith, m)) (omega (arith, l)) e k h.1)

pub drawn_all : (ss : List ObjState) (ps : List Part) → length ss ≡ length ps → DrawnSoFar ss ps → AreDrawn ss ps
drawn_all [] [] l h = tt
drawn_all [] (p ∷ ps) l h = absurd (omega (arith, l))
drawn_all (s ∷ ss) [] l h = absurd (omega (arith, l))
drawn_all (s ∷ ss) (p ∷ ps) l h = (h.0, drawn_all ss ps (omega (arith, l)) h.1)

-- the first parts are configured, and those from a place on drawn
abbrev pub AreHalfDone : Config → ℕ → ℕ → List ObjState → List Part → Type 0
AreHalfDone c i zero ss ps = AreDrawn ss ps
AreHalfDone c i (suc n) [] [] = Unit {0}
AreHalfDone c i (suc n) (s ∷ ss) (p ∷ ps) = (s ≡ configured c i p) × AreHalfDone c (i + 1) n ss ps
AreHalfDone c i (suc n) [] (p ∷ ps) = ⊥
AreHalfDone c i (suc n) (s ∷ ss) [] = ⊥

drawn_length : (ss : List ObjState) (ps : List Part) → AreDrawn ss ps → length ss ≡ length ps
drawn_length [] [] h = refl
drawn_length [] (p ∷ ps) h = absurd h
drawn_length (s ∷ ss) [] h = absurd h
drawn_length (s ∷ ss) (p ∷ ps) h = ap suc (drawn_length ss ps h.1)

pub done_length : (c : Config) (i n : ℕ) (ss : List ObjState) (ps : List Part) → AreHalfDone c i n ss ps → length ss ≡ length ps
done_length c i zero ss ps h = drawn_length ss ps h
done_length c i (suc n) [] [] h = refl
done_length c i (suc n) [] (p ∷ ps) h = absurd h
done_length c i (suc n) (s ∷ ss) [] h = absurd h
done_length c i (suc n) (s ∷ ss) (p ∷ ps) h = ap suc (done_length c (i + 1) n ss ps h.1)

next_part : (c : Config) (i n : ℕ) (ss : List ObjState) (ps : List Part) (d : ObjState) (p : Part) → n < length ps → p ≡ get_or ps n p
    → AreHalfDone c i n ss ps → IsPart (kind_of_own p.own) (get_or ss n d)
next_part c i n ss [] d p l e h = absurd (omega arith)
next_part c i zero [] (q ∷ qs) d p l e h = absurd h
next_part c i zero (s ∷ ss) (q ∷ qs) d p l e h = subst (λ (x : Part). IsPart (kind_of_own x.own) s) (sym e) h.0
next_part c i (suc n) [] (q ∷ qs) d p l e h = absurd h
next_part c i (suc n) (s ∷ ss) (q ∷ qs) d p l e h = next_part c (i + 1) n ss qs d p (omega arith) e h.1

next_done : (c : Config) (i n k : ℕ) (ss : List ObjState) (ps : List Part) (p : Part) → k ≡ i + n → n < length ps → p ≡ get_or ps n p
    → AreHalfDone c i n ss ps → AreHalfDone c i (suc n) (set ss n (configured c k p)) ps
next_done c i n k ss [] p m l e h = absurd (omega arith)
next_done c i zero k [] (q ∷ qs) p m l e h = absurd h
next_done c i zero k (s ∷ ss) (q ∷ qs) p m l e h =
    let same : k ≡ i = omega (arith, m) in
    (ap (λ (x : Part). configured c k x) e ∙ ap (λ j. configured c j q) same, h.1)
next_done c i (suc n) k [] (q ∷ qs) p m l e h = absurd h
next_done c i (suc n) k (s ∷ ss) (q ∷ qs) p m l e h = (h.0, next_done c (i + 1) n k ss qs p (omega (arith, m)) (omega arith) e h.1)

pub all_done : (c : Config) (i n : ℕ) (ss : List ObjState) (ps : List Part) → n ≡ length ps → AreHalfDone c i n ss ps → ss ≡ all_configured c i ps
all_done c i zero [] [] l h = refl
all_done c i zero ss (p ∷ ps) l h = absurd (omega (arith, l))
all_done c i zero (s ∷ ss) [] l h = absurd h
all_done c i (suc n) ss [] l h = absurd (omega (arith, l))
all_done c i (suc n) [] (p ∷ ps) l h = absurd h
all_done c i (suc n) (s ∷ ss) (p ∷ ps) l h = rw (h.0, sym (all_done c (i + 1) n ss ps (omega (arith, l)) h.1)) refl

-- the part at a place, boxed
module _ {X : Type 0} (f : X → ObjState) (c : Config) (ps : List Part) (xs : List X) (n : ℕ) (p : Part) (b : X) (l : n < length ps) (e : p ≡ get_or ps n p)
    (is : b ≡ get_or xs n b) (h : AreHalfDone c 0 n (map f xs) ps) where
  boxed : n < length xs
  boxed =
      let k : length (map f xs) ≡ length ps = done_length c 0 n (map f xs) ps h in
      let m : length xs ≡ length ps = rw length-map at k in
      omega (arith, l, m)

  pub box_part : IsPart (kind_of_own p.own) (f b)
  box_part = subst (IsPart (kind_of_own p.own)) (get_or-map f xs n b (f b) boxed ∙ sym (ap f is)) (next_part c 0 n (map f xs) ps (f b) p l e h)

  pub box_done : (b' : X) → f b' ≡ configured c n p → AreHalfDone c 0 (n + 1) (map f (set xs n b')) ps
  box_done b' k = rw (add-one, map-set f xs n b', k) (next_done c 0 n n (map f xs) ps p (omega arith) l e h)

pub boxes_length : {X : Type 0} (f : X → ObjState) (c : Config) (ps : List Part) (xs : List X) (n : ℕ) → AreHalfDone c 0 n (map f xs) ps → length xs ≡ length ps
boxes_length f c ps xs n h = let k : length (map f xs) ≡ length ps = done_length c 0 n (map f xs) ps h in rw length-map at k

-- what a row's part is configured with is allowed
pub row_allowed : (c : Config) (n : ℕ) (p : Part) → IsValidConfig c → n < length (platform c) → p ≡ get_or (platform c) n p → IsAllowed (params_of c n p.own)
row_allowed c zero p v l e = rw e (record { line = v.line; least = v.ram_least; most = v.ram_most; pages = v.ram_pages; own = v.cpu_period })
row_allowed c (suc zero) p v l e = rw e (record { line = v.line; least = v.ram_least; most = v.ram_most; pages = v.ram_pages; own = (v.corebus_latency, refl) })
row_allowed c (suc (suc zero)) p v l e = rw e (record { line = v.line; least = v.ram_least; most = v.ram_most; pages = v.ram_pages; own = v.exit_latency })
row_allowed c (suc (suc (suc zero))) p v l e = rw e (record { line = v.line; least = v.ram_least; most = v.ram_most; pages = v.ram_pages; own = (v.mem_latency, v.mem_queue) })
row_allowed c (suc (suc (suc (suc zero)))) p v l e = rw e (record { line = v.line; least = v.ram_least; most = v.ram_most; pages = v.ram_pages; own = (v.membus_latency, refl) })
row_allowed c (suc (suc (suc (suc (suc zero))))) p v l e = rw e (record { line = v.line; least = v.ram_least; most = v.ram_most; pages = v.ram_pages; own = v.cpu_period })
row_allowed c (suc (suc (suc (suc (suc (suc zero)))))) p v l e = rw e (record { line = v.line; least = v.ram_least; most = v.ram_most; pages = v.ram_pages; own = (v.timer_latency, v.timer_period) })
row_allowed c (suc (suc (suc (suc (suc (suc (suc zero))))))) p v l e = rw e (record { line = v.line; least = v.ram_least; most = v.ram_most; pages = v.ram_pages; own = (v.uart_latency, v.uart_chartime) })
row_allowed c (suc (suc (suc (suc (suc (suc (suc (suc n)))))))) p v l e = absurd (omega (arith, l))

-- bytes that are none change nothing
no_bytes : (o : ObjState) → ram_loaded [] o ≡ o
no_bytes (Blank k) = refl
no_bytes (AtomicCpu s) = refl
no_bytes (TimingCpu s) = refl
no_bytes (Xbar s) = refl
no_bytes (Server s) = by s.device refl where
  by : (d : Device) → s.device ≡ d → ram_loaded [] (Server s) ≡ Server s
  by (Memory m) e = rw e refl
  by (Uart u) e = rw e refl
  by (Exit code) e = rw e refl
  by (Timer t) e = rw e refl

objects_started : (c : Config) (i : ℕ) (ps : List Part) → all_configured c i ps ≡ map (λ o. cpu_started ram_base c.system_model (ram_loaded [] o)) (built_objects c i ps)
objects_started c i [] = refl
objects_started c i (p ∷ ps) = rw (no_bytes (built_object c i p), sym (objects_started c (i + 1) ps)) refl

-- the machine of the configured parts is the one at its start
pub started : (c : Config) → standing c [] (all_configured c 0 (platform c)) ≡ start_state c ram_base []
started c = rw (objects_started c 0 (platform c)) refl
