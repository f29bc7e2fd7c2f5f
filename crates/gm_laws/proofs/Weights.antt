-- What weights say of packets: where the hart waits for one, all that the program sees of the packets under way is that one.
use Rattle.std.proofs.Common.{◌≡◌, ℕ, ◌+◌, ◌≤◌, refl, sym, ◌∙◌, ap, subst, arith, Bool, true, false, not, cond, ◌&&◌, ◌==◌, zero, suc, List, [], ◌∷◌, ◌++◌, Option, Some, None}
use Rattle.pkt_pool.specs.Packet.{is_response}
use Rattle.gm_words.specs.Numbers.{carried_number, response_number}
use Rattle.gm_words.specs.Routes.{Route, is_unmapped}
use Rattle.gm_model.specs.View.{Mind, Doing, Boundary, Fetching, Decoded, Accessing, is_of_hart, awaited, progress_of}
use Rattle.pkt_pool.specs.declared.packet.Packet.{Packet}
use Rattle.gm_laws.specs.Words.{weigh, IsBlind}
use Rattle.gm_laws.specs.Program.{bit, core, owed, bad, suits, content_of, is_access, is_fetch}
use Rattle.rv_step.specs.declared.demand.Demand.{Demand}
use Rattle.rv_step.specs.declared.demand.Demand.TheVariants as demand
use Rattle.rv_step.specs.Demand.{need}
use Rattle.gm_words.specs.Platform.{is_in_ram}
use Rattle.pkt_pool.specs.declared.cmd.Cmd.TheVariants as cmds

pub weigh-append : (f : Packet → ℕ) (xs ys : List Packet) → weigh f (xs ++ ys) ≡ weigh f xs + weigh f ys
weigh-append f [] ys = omega arith
weigh-append f (x ∷ xs) ys = omega (arith, weigh-append f xs ys)

pub core_blind : IsBlind core
core_blind x stack depth = refl

pub bad_blind : (rs : List Route) (ram : ℕ) (m : Mind) → IsBlind (bad rs ram m)
bad_blind rs ram m x stack depth = refl

pub bit_le : (b : Bool) → bit b ≤ 1
bit_le true = omega arith
bit_le false = omega arith

pub bit_true : (b : Bool) → bit b ≡ 1 → b ≡ true
bit_true true e = refl
bit_true false e = absurd (omega arith)

pub core_le : (x : Packet) → core x ≤ 1
core_le x = bit_le (is_of_hart x.src)

-- what isn't the hart's is expected or not, wherever the hart stands
pub bad_core : (rs : List Route) (ram : ℕ) (m n : Mind) (x : Packet) → bad rs ram n x ≤ bad rs ram m x + core x
bad_core rs ram m n x = by x.src where
  by : (s : ℕ) → bit (not (suits rs ram n s (content_of x))) ≤ bit (not (suits rs ram m s (content_of x))) + bit (is_of_hart s)
  by zero = omega (arith, bit_le (not (suits rs ram n 0 (content_of x))))
  by (suc zero) = omega (arith, bit_le (not (suits rs ram n 1 (content_of x))))
  by (suc (suc k)) = omega arith

pub weigh_le : (f g h : Packet → ℕ) → ((x : Packet) → f x ≤ g x + h x) → (xs : List Packet) → weigh f xs ≤ weigh g xs + weigh h xs
weigh_le f g h l [] = omega arith
weigh_le f g h l (x ∷ xs) = omega (arith, l x, weigh_le f g h l xs)

-- a number of the hart's packets alone
unfoldable pub on_core : (Packet → ℕ) → Packet → ℕ
on_core f x = cond (is_of_hart x.src) (f x) 0

pub on_core-zero : (f : Packet → ℕ) (x : Packet) → core x ≡ 0 → on_core f x ≡ 0
unfolding on_core
on_core-zero f x e = by (is_of_hart x.src) e where
  by : (b : Bool) → bit b ≡ 0 → cond b (f x) 0 ≡ 0
  by true e = absurd (omega arith)
  by false e = refl

on_core-one : (f : Packet → ℕ) (x : Packet) → core x ≡ 1 → on_core f x ≡ f x
unfolding on_core
on_core-one f x e = rw (bit_true (is_of_hart x.src) e) refl

pub on_core-blind : (f : Packet → ℕ) → IsBlind f → IsBlind (on_core f)
unfolding on_core
on_core-blind f b x stack depth = ap (λ n. cond (is_of_hart x.src) n 0) (b x stack depth)

pub on_core-none : (f : Packet → ℕ) (xs : List Packet) → weigh core xs ≡ 0 → weigh (on_core f) xs ≡ 0
on_core-none f [] e = refl
on_core-none f (x ∷ xs) e = omega (arith, on_core-zero f x (omega arith), on_core-none f xs (omega arith))

pub none_awaited : (xs : List Packet) → weigh core xs ≡ 0 → awaited xs ≡ None
none_awaited [] e = refl
none_awaited (x ∷ xs) e = by (is_of_hart x.src) (none_awaited xs (omega arith)) (let z : core x ≡ 0 = omega arith in z) where
  by : (b : Bool) → awaited xs ≡ None → bit b ≡ 0 → cond b (Some x) (awaited xs) ≡ None
  by true h z = absurd (omega arith)
  by false h z = h

-- all that the packets are to the hart is this one
pub record IsOne (xs : List Packet) (y : Packet) : Type 0 where
  pub own : core y ≡ 1
  pub same : (f : Packet → ℕ) → IsBlind f → weigh (on_core f) xs ≡ f y

pub record Found (xs : List Packet) : Type 0 where
  pub pkt : Packet
  pub there : awaited xs ≡ Some pkt
  pub one : IsOne xs pkt

pub one_awaited : (xs : List Packet) → weigh core xs ≡ 1 → Found xs
one_awaited [] e = absurd (omega arith)
one_awaited (x ∷ xs) e = by (is_of_hart x.src) refl (λ c. one_awaited xs c) where
  by : (b : Bool) → is_of_hart x.src ≡ b → (weigh core xs ≡ 1 → Found xs) → Found (x ∷ xs)
  by true t rest =
      let c : core x ≡ 1 = ap bit t in
      record {
        pkt = x;
        there = rw t refl;
        one = record { own = c; same = λ f b. omega (arith, on_core-one f x c, on_core-none f xs (omega (arith, c))) };
      }
  by false t rest =
      let c : core x ≡ 0 = ap bit t in
      let r = rest (omega (arith, c)) in
      record {
        pkt = r.pkt;
        there = ap (λ b. cond {A = Option Packet} b (Some x) (awaited xs)) t ∙ r.there;
        one = record { own = r.one.own; same = λ f b. omega (arith, on_core-zero f x c, r.one.same f b) };
      }

-- of packets that are to others as one more is
pub one_more : (xs ls : List Packet) (y : Packet) → ((f : Packet → ℕ) → IsBlind f → weigh f xs ≡ weigh f ls + f y) → weigh core ls ≡ 0 → core y ≡ 1 → IsOne xs y
one_more xs ls y e z c = record {
  own = c;
  same = λ f b. omega (arith, e (on_core f) (on_core-blind f b), on_core-none f ls z, on_core-one f y c);
}

pub one_same : (xs : List Packet) (y z : Packet) → IsOne xs y → IsOne xs z → (f : Packet → ℕ) → IsBlind f → f y ≡ f z
one_same xs y z p q f b = omega (arith, p.same f b, q.same f b)

pub one_through : (xs ys : List Packet) (z : Packet) → ((f : Packet → ℕ) → IsBlind f → weigh (on_core f) xs ≡ weigh (on_core f) ys) → IsOne ys z → IsOne xs z
one_through xs ys z e p = record { own = p.own; same = λ f b. e f b ∙ p.same f b }

bit_same : (b c : Bool) → bit b ≡ bit c → b ≡ c
bit_same true true e = refl
bit_same false false e = refl
bit_same true false e = absurd (omega arith)
bit_same false true e = absurd (omega arith)

-- so the program sees them alike
same_progress : (rs : List Route) (d : Doing) (y z : Packet) → ((f : Packet → ℕ) → IsBlind f → f y ≡ f z) → progress_of rs d (Some y) ≡ progress_of rs d (Some z)
same_progress rs Boundary y z e = refl
same_progress rs (Decoded w) y z e = refl
same_progress rs Fetching y z e =
    let r : is_response y.cmd ≡ is_response z.cmd = bit_same _ _ (e (λ x. bit (is_response x.cmd)) (λ x s d. refl)) in
    let c : carried_number y ≡ carried_number z = e carried_number (λ x s d. refl) in
    rw (r, c) refl
same_progress rs (Accessing w) y z e =
    let r : is_response y.cmd ≡ is_response z.cmd = bit_same _ _ (e (λ x. bit (is_response x.cmd)) (λ x s d. refl)) in
    let u : is_unmapped rs y.addr ≡ is_unmapped rs z.addr = bit_same _ _ (e (λ x. bit (is_unmapped rs x.addr)) (λ x s d. refl)) in
    let f : y.fault ≡ z.fault = bit_same _ _ (e (λ x. bit x.fault) (λ x s d. refl)) in
    let v : response_number y y.cmd ≡ response_number z z.cmd = e (λ x. response_number x x.cmd) (λ x s d. refl) in
    rw (r, u, f, v) refl

-- where the hart waits for nothing, the packets don't matter
pub idle_progress : (rs : List Route) (d : Doing) (x y : Option Packet) → owed d ≡ 0 → progress_of rs d x ≡ progress_of rs d y
idle_progress rs Boundary x y e = refl
idle_progress rs (Decoded w) x y e = refl
idle_progress rs Fetching x y e = absurd (omega arith)
idle_progress rs (Accessing w) x y e = absurd (omega arith)

-- the hart's progress by the one packet
pub one_progress : (rs : List Route) (d : Doing) (xs : List Packet) (y : Packet) → weigh core xs ≡ 1 → IsOne xs y → progress_of rs d (awaited xs) ≡ progress_of rs d (Some y)
one_progress rs d xs y c p =
    let r = one_awaited xs c in
    ap (progress_of rs d) r.there ∙ same_progress rs d r.pkt y (one_same xs r.pkt y r.one p)

-- the same packets of the hart, in another order and at other places
pub kept_progress : (rs : List Route) (d : Doing) (xs ys : List Packet) → weigh core xs ≡ owed d → weigh core ys ≡ owed d
    → ((f : Packet → ℕ) → IsBlind f → weigh (on_core f) xs ≡ weigh (on_core f) ys) → progress_of rs d (awaited xs) ≡ progress_of rs d (awaited ys)
kept_progress rs d xs ys c c' e = by d c c' where
  by : (d : Doing) → weigh core xs ≡ owed d → weigh core ys ≡ owed d → progress_of rs d (awaited xs) ≡ progress_of rs d (awaited ys)
  by Boundary c k = refl
  by (Decoded w) c k = refl
  by Fetching c k =
      let r = one_awaited ys k in
      one_progress rs Fetching xs r.pkt c (one_through xs ys r.pkt e r.one) ∙ sym (ap (progress_of rs Fetching) r.there)
  by (Accessing w) c k =
      let r = one_awaited ys k in
      one_progress rs (Accessing w) xs r.pkt c (one_through xs ys r.pkt e r.one) ∙ sym (ap (progress_of rs (Accessing w)) r.there)

-- nobody writes back
pub no_write_back : (rs : List Route) (ram : ℕ) (m : Mind) (x : Packet) → bad rs ram m x ≡ 0 → x.cmd ≡ cmds.WriteBack → ⊥
no_write_back rs ram m x b c = by x.src m.doing (subst (λ k. bit (not (suits rs ram m x.src (record { cmd = k; addr = x.addr; size = x.size; bytes = x.bytes; fault = x.fault }))) ≡ 0) c b) where
  by_need : (n : Demand) → bit (not (is_access rs (record { cmd = cmds.WriteBack; addr = x.addr; size = x.size; bytes = x.bytes; fault = x.fault }) n)) ≡ 0 → ⊥
  by_need (demand.Load address size) e = three (x.addr == address) (x.size == size) _ e where
    three : (a b c : Bool) → bit (not (a && b && false && c)) ≡ 0 → ⊥
    three true true c e = omega arith
    three true false c e = omega arith
    three false b c e = omega arith
  by_need (demand.Store address size v) e = three (x.addr == address) (x.size == size) _ _ e where
    three : (a b c d : Bool) → bit (not (a && b && false && c && d)) ≡ 0 → ⊥
    three true true c d e = omega arith
    three true false c d e = omega arith
    three false b c d e = omega arith
  by_need demand.Nothing e = omega arith
  by_need demand.Sleep e = omega arith
  by_need (demand.Trap k t) e = omega arith

  fetch : bit (not (is_fetch rs ram m.arch Fetching (record { cmd = cmds.WriteBack; addr = x.addr; size = x.size; bytes = x.bytes; fault = x.fault }))) ≡ 0 → ⊥
  fetch e = four (not m.arch.asleep) (x.addr == m.arch.pc) (x.size == 4) (is_in_ram ram m.arch.pc 4) _ e where
    four : (a b c d k : Bool) → bit (not (a && b && c && d && false && k)) ≡ 0 → ⊥
    four true true true true k e = omega arith
    four true true true false k e = omega arith
    four true true false d k e = omega arith
    four true false c d k e = omega arith
    four false b c d k e = omega arith

  by : (n : ℕ) (d : Doing) → bit (not (suits rs ram (record { arch = m.arch; doing = d }) n (record { cmd = cmds.WriteBack; addr = x.addr; size = x.size; bytes = x.bytes; fault = x.fault }))) ≡ 0 → ⊥
  by zero Fetching e = fetch e
  by zero Boundary e = omega arith
  by zero (Decoded w) e = omega arith
  by zero (Accessing w) e = omega arith
  by (suc zero) (Accessing w) e = by_need (need m.arch w) e
  by (suc zero) Boundary e = omega arith
  by (suc zero) Fetching e = omega arith
  by (suc zero) (Decoded w) e = omega arith
  by (suc (suc n)) d e = omega arith
