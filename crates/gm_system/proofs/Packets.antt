-- The packets of the machine, part by part.
use Rattle.std.proofs.Common.{◌≡◌, ℕ, zero, suc, ◌+◌, ◌<◌, ◌≤◌, List, [], ◌∷◌, ◌++◌, refl, sym, ◌∙◌, ap, arith, Bool, true, false, cond, ◌==◌, Some, None, length, set, get_or}
use Rattle.gm_model.specs.Deliver.{Item, Sent, Done, sent_by}
use Rattle.gm_model.specs.ObjState.{ObjState, Blank}
use Rattle.gm_model.specs.View.{Mind, packets_in, part_packets, item_packets, act_packets, parts_mind, parts_view}
use Rattle.gm_words.specs.declared.act.Act.{Act}
use Rattle.gm_words.specs.declared.kind.Kind.TheVariants as kinds
use Rattle.pkt_pool.specs.declared.packet.Packet.{Packet}
use Rattle.gm_laws.specs.Words.{weigh}
use Rattle.gm_laws.specs.Face.{passed_packets}
use Rattle.gm_laws.specs.Faces.{face_of}
use Rattle.gm_system.specs.System.{others_packets}
use Rattle.gm_laws.proofs.EachKind.{face_packets, face_mind, face_memory}
use Rattle.gm_laws.proofs.Weights.{weigh-append}
use Rattle.gm_laws.proofs.Bytes.{same_number}

blank : ObjState
blank = Blank kinds.AtomicCpu

-- what a part holds
abbrev pub holds : (Packet → ℕ) → ObjState → ℕ
holds f o = weigh f (face_of o).packets

pub parts-set : (f : Packet → ℕ) (os : List ObjState) (i : ℕ) (t d : ObjState) → i < length os
    → weigh f (part_packets (set os i t)) + holds f (get_or os i d) ≡ weigh f (part_packets os) + holds f t
parts-set f [] i t d h = absurd (omega arith)
parts-set f (o ∷ os) zero t d h =
    omega (arith, weigh-append f (packets_in o) (part_packets os), weigh-append f (packets_in t) (part_packets os), ap (weigh f) (face_packets o), ap (weigh f) (face_packets t))
parts-set f (o ∷ os) (suc i) t d h =
    omega (arith, weigh-append f (packets_in o) (part_packets os), weigh-append f (packets_in o) (part_packets (set os i t)), parts-set f os i t d (omega arith))

pub part_le : (f : Packet → ℕ) (os : List ObjState) (i : ℕ) (d : ObjState) → i < length os → holds f (get_or os i d) ≤ weigh f (part_packets os)
part_le f [] i d h = absurd (omega arith)
part_le f (o ∷ os) zero d h = omega (arith, weigh-append f (packets_in o) (part_packets os), ap (weigh f) (face_packets o))
part_le f (o ∷ os) (suc i) d h = omega (arith, weigh-append f (packets_in o) (part_packets os), part_le f os i d (omega arith))

pub two_parts : (f : Packet → ℕ) (os : List ObjState) (i k : ℕ) (d : ObjState) → i < length os → k < length os → (i ≡ k → ⊥)
    → holds f (get_or os i d) + holds f (get_or os k d) ≤ weigh f (part_packets os)
two_parts f [] i k d h g n = absurd (omega arith)
two_parts f (o ∷ os) zero zero d h g n = absurd (n refl)
two_parts f (o ∷ os) zero (suc k) d h g n = omega (arith, weigh-append f (packets_in o) (part_packets os), ap (weigh f) (face_packets o), part_le f os k d (omega arith))
two_parts f (o ∷ os) (suc i) zero d h g n = omega (arith, weigh-append f (packets_in o) (part_packets os), ap (weigh f) (face_packets o), part_le f os i d (omega arith))
two_parts f (o ∷ os) (suc i) (suc k) d h g n = omega (arith, weigh-append f (packets_in o) (part_packets os), two_parts f os i k d (omega arith) (omega arith) (λ e. n (ap suc e)))

pub items-weigh : (f : Packet → ℕ) (xs ys : List Item) → weigh f (item_packets (xs ++ ys)) ≡ weigh f (item_packets xs) + weigh f (item_packets ys)
items-weigh f [] ys = omega arith
items-weigh f (Sent i a ∷ xs) ys = omega (arith, weigh-append f (act_packets a) (item_packets (xs ++ ys)), weigh-append f (act_packets a) (item_packets xs), items-weigh f xs ys)
items-weigh f (Done i x l ∷ xs) ys = omega (arith, items-weigh f xs ys)

pub sent-weigh : (f : Packet → ℕ) (i : ℕ) (list : List Act) → weigh f (item_packets (sent_by i list)) ≡ weigh f (passed_packets list)
sent-weigh f i [] = refl
sent-weigh f i (a ∷ rest) =
    omega (arith, weigh-append f (act_packets a) (item_packets (sent_by i rest)), weigh-append f (act_packets a) (passed_packets rest), sent-weigh f i rest)

pub others-append : (f : Packet → ℕ) (c : ℕ) (xs ys : List Item) → weigh f (others_packets c (xs ++ ys)) ≡ weigh f (others_packets c xs) + weigh f (others_packets c ys)
others-append f c [] ys = omega arith
others-append f c (Sent i a ∷ xs) ys =
    let zs : List Packet = cond (i == c) [] (act_packets a) in
    omega (arith, weigh-append f zs (others_packets c (xs ++ ys)), weigh-append f zs (others_packets c xs), others-append f c xs ys)
others-append f c (Done i x l ∷ xs) ys =
    let zs : List Packet = cond (i == c) [] (x ∷ []) in
    omega (arith, weigh-append f zs (others_packets c (xs ++ ys)), weigh-append f zs (others_packets c xs), others-append f c xs ys)

-- what others send at once is at most what is sent
pub others-sent : (f : Packet → ℕ) (c i : ℕ) (list : List Act) → weigh f (others_packets c (sent_by i list)) ≤ weigh f (passed_packets list)
others-sent f c i [] = omega arith
others-sent f c i (a ∷ rest) = by (i == c) (others-sent f c i rest) where
  by : (b : Bool) → weigh f (others_packets c (sent_by i rest)) ≤ weigh f (passed_packets rest)
      → weigh f (cond b [] (act_packets a) ++ others_packets c (sent_by i rest)) ≤ weigh f (act_packets a ++ passed_packets rest)
  by true h = omega (arith, h, weigh-append f (act_packets a) (passed_packets rest))
  by false h = omega (arith, h, weigh-append f (act_packets a) (passed_packets rest), weigh-append f (act_packets a) (others_packets c (sent_by i rest)))

-- and nothing where it is the part c that sends
pub others-own : (f : Packet → ℕ) (c : ℕ) (list : List Act) → weigh f (others_packets c (sent_by c list)) ≡ 0
others-own f c [] = refl
others-own f c (a ∷ rest) = ap (λ (b : Bool). weigh f (cond b [] (act_packets a) ++ others_packets c (sent_by c rest))) (same_number c) ∙ others-own f c rest

-- the one part that has a hart, or a memory, is the first
pub mind_there : (os : List ObjState) (i : ℕ) (d : ObjState) (m : Mind) → (face_of (get_or os i d)).mind ≡ Some m → (face_of d).mind ≡ None
    → ((k : ℕ) → (k ≡ i → ⊥) → (face_of (get_or os k d)).mind ≡ None) → parts_mind os ≡ m
mind_there [] i d m h z n = cc
mind_there (o ∷ os) zero d m h z n = ap (λ q. elim q as (λ _. Mind) [ None ↦ parts_mind os | Some t ↦ t ]) (sym (face_mind o) ∙ h)
mind_there (o ∷ os) (suc i) d m h z n =
    ap (λ q. elim q as (λ _. Mind) [ None ↦ parts_mind os | Some t ↦ t ]) (sym (face_mind o) ∙ n 0 (λ e. cc)) ∙ (mind_there os i d m h z (λ k b. n (suc k) (λ e. b (omega (arith, e)))))

pub memory_there : (os : List ObjState) (i : ℕ) (d : ObjState) (m : List ℕ) → (face_of (get_or os i d)).memory ≡ Some m → (face_of d).memory ≡ None
    → ((k : ℕ) → (k ≡ i → ⊥) → (face_of (get_or os k d)).memory ≡ None) → parts_view os ≡ m
memory_there [] i d m h z n = cc
memory_there (o ∷ os) zero d m h z n = ap (λ q. elim q as (λ _. List ℕ) [ None ↦ parts_view os | Some t ↦ t ]) (sym (face_memory o) ∙ h)
memory_there (o ∷ os) (suc i) d m h z n =
    ap (λ q. elim q as (λ _. List ℕ) [ None ↦ parts_view os | Some t ↦ t ]) (sym (face_memory o) ∙ n 0 (λ e. cc)) ∙ (memory_there os i d m h z (λ k b. n (suc k) (λ e. b (omega (arith, e)))))

pub blank_mind : (face_of (Blank kinds.AtomicCpu)).mind ≡ None
unfolding face_of
blank_mind = refl

pub blank_memory : (face_of (Blank kinds.AtomicCpu)).memory ≡ None
unfolding face_of
blank_memory = refl

pub blank_packets : (face_of (Blank kinds.AtomicCpu)).packets ≡ []
unfolding face_of
blank_packets = refl
