-- What the replay needs to know of bytes, addresses and lists of entries.
use Rattle.std.proofs.Common.{◌≡◌, ℕ, suc, zero, ◌+◌, ◌-◌, ◌≤◌, refl, ◌∙◌, ap, arith, Bool, true, false, cond, ◌==◌, List, [], ◌∷◌, ◌++◌, length, take, drop, replicate, take-take, Option, Some, None, ◌/◌}
use Rattle.std.proofs.lemmas.List.{take-append-le, length-append, length-take-le, length-drop}
use Rattle.std.proofs.Math.Seq.{take-length, take-append_seam}
use Rattle.std.proofs.lemmas.Grind.{common_steps}
use Rattle.std.proofs.lemmas.Bool.Decides.{nat_tests}
use Rattle.std.proofs.lemmas.Bool.{and_parts}
use Rattle.rv_step.specs.Bytes.{bytes_of}
use Rattle.rv_step.specs.FlatMem.{ram_base, in_ram, ram_put}
use Rattle.rv_step.specs.declared.arch.Arch.{Arch}
use Rattle.rv_step.specs.declared.demand.Demand.{Demand}
use Rattle.rv_step.specs.declared.demand.Demand.TheVariants as demand
use Rattle.rv_step.specs.declared.width.Size.{Size}
use Rattle.rv_step.specs.declared.width.Size.TheVariants as widths
use Rattle.rv_step.specs.declared.group.Group.{Group}
use Rattle.rv_step.specs.declared.group.Group.TheVariants as group
use Rattle.rv_step.specs.Width.{byte_count}
use Rattle.rv_step.specs.Demand.{need, need_of, decoded_need, group_need, near_target, far_target, access_address}
use Rattle.rv_step.specs.Branch.{condition_holds}
use Rattle.rv_step.specs.Arch.{reg}
use Rattle.rv_step.specs.Group.{group_of}
use Rattle.rv_table.specs.Table.{decode_of}
use Rattle.rv_table.specs.declared.inst.Inst.{Inst}
use Rattle.pkt_pool.specs.Packet.{with_front}
use Rattle.gm_words.specs.Entries.{entry_bytes, ram_bytes}
use Rattle.gm_words.specs.Routes.{Route}
use Rattle.gm_words.specs.Replay.{same_bytes, replay, replay_entry, when, ProgramState}
use Rattle.gm_words.specs.declared.entry.Entry.{Entry}

pub same_number : (n : ℕ) → (n == n) ≡ true
same_number n = grind (arith, nat_tests)

pub bytes_same : (xs : List ℕ) → same_bytes xs xs ≡ true
bytes_same [] = refl
bytes_same (x ∷ xs) = rw (same_number x) (bytes_same xs)

-- the bytes in front of a packet's are those that it carries
pub front_carried : (bytes front : List ℕ) (n : ℕ) → length front ≡ n → take n (with_front bytes front) ≡ front
front_carried bytes front n e = rw (← e) (take-append_seam front (drop (length front) bytes))

-- an entry keeps up to eight bytes
pub entry_front : (bytes : List ℕ) (n : ℕ) → length bytes ≡ n → n ≤ 8 → take n (entry_bytes bytes) ≡ bytes
entry_front bytes n e h =
    let fits : n ≤ 8 = h in
    let long : 8 ≤ length (bytes ++ replicate 8 0) = omega (arith, length-append bytes (replicate 8 0)) in
    take-take n 8 (bytes ++ replicate 8 0) h ∙ (take-append-le n bytes (replicate 8 0) (omega arith) ∙ (rw (← e) (take-length bytes)))

pub length-bytes_of : (k n : ℕ) → length (bytes_of k n) ≡ k
length-bytes_of zero n = refl
length-bytes_of (suc k) n = ap suc (length-bytes_of k (n / 256))

-- what the test says of the range
pub in_range : (m : List ℕ) (address count : ℕ) → in_ram m address count ≡ true → (ram_base ≤ address) × (address + count ≤ ram_base + length m)
in_range m address count h = (grind (arith, common_steps, nat_tests, h), grind (arith, common_steps, nat_tests, h))

-- bytes that lie in RAM
pub length-ram_bytes : (m : List ℕ) (address count : ℕ) → in_ram m address count ≡ true → length (ram_bytes m address count) ≡ count
length-ram_bytes m address count h =
    let r = in_range m address count h in
    length-take-le count (drop (address - ram_base) m) (omega (arith, length-drop (address - ram_base) m))

pub length-ram_put : (m : List ℕ) (address : ℕ) (bytes : List ℕ) → in_ram m address (length bytes) ≡ true → length (ram_put m address bytes) ≡ length m
length-ram_put m address bytes h =
    let r = in_range m address (length bytes) h in
    omega (
      arith,
      length-append (take (address - ram_base) m ++ bytes) (drop (address - ram_base + length bytes) m),
      length-append (take (address - ram_base) m) bytes,
      length-take-le (address - ram_base) m (omega arith),
      length-drop (address - ram_base + length bytes) m,
    )

-- entries in a row
pub replay-append : (rs : List Route) (p q : ProgramState) (xs ys : List Entry) → replay rs p xs ≡ Some q → replay rs p (xs ++ ys) ≡ replay rs q ys
unfolding replay
replay-append rs p q [] ys h = let same : p ≡ q = cc in ap (λ r. replay rs r ys) same
replay-append rs p q (x ∷ xs) ys h = by_first (replay_entry rs p x) h (λ r k. replay-append rs r q xs ys k) where
  by_first : (o : Option ProgramState) → elim o as (λ _. Option ProgramState) [ None ↦ None | Some r ↦ replay rs r xs ] ≡ Some q
      → ((r : ProgramState) → replay rs r xs ≡ Some q → replay rs r (xs ++ ys) ≡ replay rs q ys)
      → elim o as (λ _. Option ProgramState) [ None ↦ None | Some r ↦ replay rs r (xs ++ ys) ] ≡ replay rs q ys
  by_first None k more = cc
  by_first (Some r) k more = more r k

-- an access that a word asks for moves at most eight bytes
abbrev pub IsNarrow : Demand → Type 0
IsNarrow demand.Nothing = Unit {0}
IsNarrow demand.Sleep = Unit {0}
IsNarrow (demand.Load address count) = (1 ≤ count) × (count ≤ 8)
IsNarrow (demand.Store address count v) = (1 ≤ count) × (count ≤ 8)
IsNarrow (demand.Trap cause tval) = Unit {0}

pub need_narrow : (a : Arch) (w : ℕ) → IsNarrow (need a w)
unfolding need need_of
need_narrow a w = by_inst (decode_of w) where
  narrow_load : (address : ℕ) (k : Size) (b : Bool) → IsNarrow (cond b (demand.Load address (byte_count k)) (demand.Trap 4 address))
  narrow_load address widths.Byte true = (omega arith, omega arith)
  narrow_load address widths.Half true = (omega arith, omega arith)
  narrow_load address widths.Word true = (omega arith, omega arith)
  narrow_load address widths.Double true = (omega arith, omega arith)
  narrow_load address k false = tt

  narrow_store : (address v : ℕ) (k : Size) (b : Bool) → IsNarrow (cond b (demand.Store address (byte_count k) v) (demand.Trap 6 address))
  narrow_store address v widths.Byte true = (omega arith, omega arith)
  narrow_store address v widths.Half true = (omega arith, omega arith)
  narrow_store address v widths.Word true = (omega arith, omega arith)
  narrow_store address v widths.Double true = (omega arith, omega arith)
  narrow_store address v k false = tt

  narrow_jump : (t : ℕ) (b : Bool) → IsNarrow (cond b demand.Nothing (demand.Trap 0 t))
  narrow_jump t true = tt
  narrow_jump t false = tt

  narrow_branch : (d : Demand) (b : Bool) → IsNarrow d → IsNarrow (cond b d demand.Nothing)
  narrow_branch d true h = h
  narrow_branch d false h = tt

  narrow_csr : (b : Bool) → IsNarrow (cond b demand.Nothing (demand.Trap 2 w))
  narrow_csr true = tt
  narrow_csr false = tt

  by_group : (g : Group) (i : Inst) → IsNarrow (group_need g a i w)
  by_group group.Upper i = tt
  by_group group.UpperPc i = tt
  by_group group.Jump i = narrow_jump (near_target a i) _
  by_group group.JumpTo i = narrow_jump (far_target a i) _
  by_group (group.Branch c) i = narrow_branch _ (condition_holds c (reg a i.rs1) (reg a i.rs2)) (narrow_jump (near_target a i) _)
  by_group (group.Load e k) i = narrow_load (access_address a i) k _
  by_group (group.Store k) i = narrow_store (access_address a i) _ k _
  by_group (group.Immediate o) i = tt
  by_group (group.Register o) i = tt
  by_group group.Fence i = tt
  by_group (group.Csr c) i = narrow_csr _
  by_group (group.CsrNumber c) i = narrow_csr _
  by_group group.Call i = tt
  by_group group.Break i = tt
  by_group group.Return i = tt
  by_group group.Wait i = tt

  by_inst : (o : Option Inst) → IsNarrow (decoded_need o a w)
  by_inst None = tt
  by_inst (Some i) = by_group (group_of i.op) i

-- two lists that the test finds to be the same
pub same_lists : (xs ys : List ℕ) → same_bytes xs ys ≡ true → xs ≡ ys
same_lists [] [] e = refl
same_lists [] (y ∷ ys) e = cc
same_lists (x ∷ xs) [] e = cc
same_lists (x ∷ xs) (y ∷ ys) e =
    let b = and_parts (x == y) (same_bytes xs ys) e in
    let h : x ≡ y = grind (arith, nat_tests, b.0) in
    let t = same_lists xs ys b.1 in
    ap (λ z. z ∷ xs) h ∙ ap (λ zs. y ∷ zs) t

pub when_holds : (b : Bool) (p q : ProgramState) → b ≡ true → p ≡ q → when b p ≡ Some q
when_holds true p q h e = ap Some e
when_holds false p q h e = cc

pub one_entry : (rs : List Route) (p q : ProgramState) (e : Entry) → replay_entry rs p e ≡ Some q → replay rs p (e ∷ []) ≡ Some q
unfolding replay
one_entry rs p q e h = ap (λ o. elim o as (λ _. Option ProgramState) [ None ↦ None | Some r ↦ Some r ]) h

pub no_entry : (rs : List Route) (p q : ProgramState) → p ≡ q → replay rs p [] ≡ Some q
unfolding replay
no_entry rs p q e = ap Some e

pub same_is : (a b : ℕ) → (a == b) ≡ true → a ≡ b
same_is a b e = grind (arith, nat_tests, e)

-- what a word asks for doesn't depend on the interrupt lines, nor on whether the hart sleeps
pub need_blind : (a : Arch) (m : ℕ) (s : Bool) (w : ℕ) → need (record a { mip = m; asleep = s }) w ≡ need a w
unfolding need need_of
need_blind a m s w = by_inst (decode_of w) where
  by_group : (g : Group) (i : Inst) → group_need g (record a { mip = m; asleep = s }) i w ≡ group_need g a i w
  by_group group.Upper i = refl
  by_group group.UpperPc i = refl
  by_group group.Jump i = refl
  by_group group.JumpTo i = refl
  by_group (group.Branch c) i = refl
  by_group (group.Load e k) i = refl
  by_group (group.Store k) i = refl
  by_group (group.Immediate o) i = refl
  by_group (group.Register o) i = refl
  by_group group.Fence i = refl
  by_group (group.Csr c) i = refl
  by_group (group.CsrNumber c) i = refl
  by_group group.Call i = refl
  by_group group.Break i = refl
  by_group group.Return i = refl
  by_group group.Wait i = refl

  by_inst : (o : Option Inst) → decoded_need o (record a { mip = m; asleep = s }) w ≡ decoded_need o a w
  by_inst None = refl
  by_inst (Some i) = by_group (group_of i.op) i
