-- How registers change.
use Rattle.std.proofs.Common.{◌≡◌, ℕ, ◌+◌, ◌≤◌, ◌⊎◌, inl, inr, Bool, true, false, ◌||◌, List, [], ◌∷◌, ◌++◌, length, Option, Some, None, refl, sym, ◌∙◌, ap, subst, arith, eq-eqb, ne_eqb, ◌==◌, cond, if◌then◌else◌, length-append}
use Rattle.std.specs.Prelude.{nat_le}
use Rattle.std.proofs.lemmas.Bool.{cases_eq, leb-false}
use Rattle.cache_tags.specs.Line.{Line}
use Rattle.gm_cache.specs.State.{CacheState, Register, find_register, without_register, joined}
use Rattle.gm_cache.specs.Rule.{has_full}
use Rattle.gm_cache.specs.Lines.{state_in, IsTarget, AreTargets, IsRegister, AreRegisters}
use Rattle.pkt_pool.specs.declared.packet.Packet.{Packet}

pub register_here : (a : ℕ) (r : Register) (rs : List Register) → r.address ≡ a → find_register a (r ∷ rs) ≡ Some r
register_here a r rs e = rw (eq-eqb r.address a e) refl

pub register_past : (a : ℕ) (r : Register) (rs : List Register) → (r.address ≡ a → ⊥) → find_register a (r ∷ rs) ≡ find_register a rs
register_past a r rs n = rw (ne_eqb r.address a n) refl

pub found_register : (a : ℕ) (rs : List Register) (r : Register) → find_register a rs ≡ Some r → r.address ≡ a
found_register a [] r e = absurd (cc e)
found_register a (k ∷ ks) r e = by (found_register a ks r) (cases_eq k.address a) e where
  by : (find_register a ks ≡ Some r → r.address ≡ a) → (k.address ≡ a) ⊎ (k.address ≡ a → ⊥)
      → cond (k.address == a) (Some k) (find_register a ks) ≡ Some r → r.address ≡ a
  by more (inl f) h = let same : k ≡ r = cc (rw (eq-eqb k.address a f) at h) in ap (λ (x : Register). x.address) (sym same) ∙ f
  by more (inr f) h = more (rw (ne_eqb k.address a f) at h)

-- one more target changes no line's state
pub state_joined : (o : Option Line) (a b : ℕ) (x : Packet) (rs : List Register)
    → state_in o (find_register a (joined b x rs)) ≡ state_in o (find_register a rs)
state_joined (Some l) a b x rs = refl
state_joined None a b x [] = refl
state_joined None a b x (r ∷ rs) = by (state_joined None a b x rs) (cases_eq r.address b) (cases_eq r.address a) where
  by : state_in None (find_register a (joined b x rs)) ≡ state_in None (find_register a rs) → (r.address ≡ b) ⊎ (r.address ≡ b → ⊥)
      → (r.address ≡ a) ⊎ (r.address ≡ a → ⊥)
      → state_in None (find_register a (if r.address == b then record r { targets = r.targets ++ x ∷ [] } ∷ rs else r ∷ joined b x rs))
      ≡ state_in None (find_register a (r ∷ rs))
  by more (inl e) (inl f) = rw (eq-eqb r.address b e, eq-eqb r.address a f) refl
  by more (inl e) (inr f) = rw (eq-eqb r.address b e, ne_eqb r.address a f) refl
  by more (inr e) (inl f) = rw (ne_eqb r.address b e, eq-eqb r.address a f) refl
  by more (inr e) (inr f) = rw (ne_eqb r.address b e, ne_eqb r.address a f) more

-- one more register
pub register-append : (a : ℕ) (rs : List Register) (r : Register) → (r.address ≡ a → ⊥) → find_register a (rs ++ r ∷ []) ≡ find_register a rs
register-append a [] r n = register_past a r [] n
register-append a (k ∷ ks) r n = by (register-append a ks r n) (cases_eq k.address a) where
  by : find_register a (ks ++ r ∷ []) ≡ find_register a ks → (k.address ≡ a) ⊎ (k.address ≡ a → ⊥)
      → find_register a (k ∷ (ks ++ r ∷ [])) ≡ find_register a (k ∷ ks)
  by more (inl e) = register_here a k (ks ++ r ∷ []) e ∙ sym (register_here a k ks e)
  by more (inr e) = register_past a k (ks ++ r ∷ []) e ∙ (more ∙ sym (register_past a k ks e))

pub register_added : (a : ℕ) (rs : List Register) (r : Register) → r.address ≡ a → find_register a rs ≡ None → find_register a (rs ++ r ∷ []) ≡ Some r
register_added a [] r e n = register_here a r [] e
register_added a (k ∷ ks) r e n = by (register_added a ks r e) (cases_eq k.address a) where
  by : (find_register a ks ≡ None → find_register a (ks ++ r ∷ []) ≡ Some r) → (k.address ≡ a) ⊎ (k.address ≡ a → ⊥)
      → find_register a (k ∷ (ks ++ r ∷ [])) ≡ Some r
  by more (inl f) = absurd (cc (sym (register_here a k ks f) ∙ n))
  by more (inr f) = register_past a k (ks ++ r ∷ []) f ∙ more (sym (register_past a k ks f) ∙ n)

-- one register fewer
pub register_without : (a b : ℕ) (rs : List Register) → (b ≡ a → ⊥) → find_register a (without_register b rs) ≡ find_register a rs
register_without a b [] n = refl
register_without a b (r ∷ rs) n = by (register_without a b rs n) (cases_eq r.address b) where
  by : find_register a (without_register b rs) ≡ find_register a rs → (r.address ≡ b) ⊎ (r.address ≡ b → ⊥)
      → find_register a (if r.address == b then rs else r ∷ without_register b rs) ≡ find_register a (r ∷ rs)
  by more (inl e) = rw (eq-eqb r.address b e) (sym (register_past a r rs (λ f. n (sym e ∙ f))))
  by more (inr e) = rw (ne_eqb r.address b e) (first (cases_eq r.address a)) where
    first : (r.address ≡ a) ⊎ (r.address ≡ a → ⊥) → find_register a (r ∷ without_register b rs) ≡ find_register a (r ∷ rs)
    first (inl f) = register_here a r (without_register b rs) f ∙ sym (register_here a r rs f)
    first (inr f) = register_past a r (without_register b rs) f ∙ (more ∙ sym (register_past a r rs f))

pub gone_register : (s : CacheState) (b : ℕ) (rs : List Register) → AreRegisters s rs → find_register b (without_register b rs) ≡ None
gone_register s b [] ok = refl
gone_register s b (r ∷ rs) ok = by (gone_register s b rs ok.2) (cases_eq r.address b) where
  by : find_register b (without_register b rs) ≡ None → (r.address ≡ b) ⊎ (r.address ≡ b → ⊥)
      → find_register b (if r.address == b then rs else r ∷ without_register b rs) ≡ None
  by more (inl e) = rw (eq-eqb r.address b e) (subst (λ x. find_register x rs ≡ None) e ok.1)
  by more (inr e) = rw (ne_eqb r.address b e) (register_past b r (without_register b rs) e ∙ more)

pub registers_without : (s : CacheState) (b : ℕ) (rs : List Register) → AreRegisters s rs → AreRegisters s (without_register b rs)
registers_without s b [] ok = tt
registers_without s b (r ∷ rs) ok = by (registers_without s b rs ok.2) (cases_eq r.address b) where
  by : AreRegisters s (without_register b rs) → (r.address ≡ b) ⊎ (r.address ≡ b → ⊥)
      → AreRegisters s (if r.address == b then rs else r ∷ without_register b rs)
  by more (inl e) = rw (eq-eqb r.address b e) ok.2
  by more (inr e) = rw (ne_eqb r.address b e) (ok.0, register_without r.address b rs (λ f. e (sym f)) ∙ ok.1, more)

pub length-without_register : (b : ℕ) (rs : List Register) (r : Register) → find_register b rs ≡ Some r → length (without_register b rs) + 1 ≡ length rs
length-without_register b [] r e = absurd (cc e)
length-without_register b (k ∷ ks) r e = by (length-without_register b ks r) (cases_eq k.address b) where
  by : (find_register b ks ≡ Some r → length (without_register b ks) + 1 ≡ length ks) → (k.address ≡ b) ⊎ (k.address ≡ b → ⊥)
      → length (if k.address == b then ks else k ∷ without_register b ks) + 1 ≡ length (k ∷ ks)
  by more (inl f) = rw (eq-eqb k.address b f) (omega arith)
  by more (inr f) = rw (ne_eqb k.address b f) (omega (arith, more (sym (register_past b k ks f) ∙ e)))

pub length-joined : (b : ℕ) (x : Packet) (rs : List Register) → length (joined b x rs) ≡ length rs
length-joined b x [] = refl
length-joined b x (r ∷ rs) = by (length-joined b x rs) (cases_eq r.address b) where
  by : length (joined b x rs) ≡ length rs → (r.address ≡ b) ⊎ (r.address ≡ b → ⊥)
      → length (if r.address == b then record r { targets = r.targets ++ x ∷ [] } ∷ rs else r ∷ joined b x rs) ≡ length (r ∷ rs)
  by more (inl e) = rw (eq-eqb r.address b e) (omega arith)
  by more (inr e) = rw (ne_eqb r.address b e) (omega (arith, more))

-- the register that was found is one of them
pub register_facts : (s : CacheState) (a : ℕ) (rs : List Register) (r : Register) → AreRegisters s rs → find_register a rs ≡ Some r → IsRegister s r
register_facts s a [] r ok e = absurd (cc e)
register_facts s a (k ∷ ks) r ok e = by (register_facts s a ks r ok.2) (cases_eq k.address a) where
  by : (find_register a ks ≡ Some r → IsRegister s r) → (k.address ≡ a) ⊎ (k.address ≡ a → ⊥) → IsRegister s r
  by more (inl f) = let same : k ≡ r = cc (sym (register_here a k ks f) ∙ e) in subst (λ (x : Register). IsRegister s x) same ok.0
  by more (inr f) = more (sym (register_past a k ks f) ∙ e)

-- no register has as many targets as it may: the first, and the others
pub full_first : (n : ℕ) (r : Register) (rs : List Register) → has_full n (r ∷ rs) ≡ false → (length r.targets + 1 ≤ n) × (has_full n rs ≡ false)
full_first n r rs e = by (nat_le n (length r.targets)) refl e where
  by : (b : Bool) → nat_le n (length r.targets) ≡ b → (b || has_full n rs) ≡ false → (length r.targets + 1 ≤ n) × (has_full n rs ≡ false)
  by false eb h = (omega (arith, leb-false n (length r.targets) eb), h)
  by true eb h = absurd (cc h)

targets_added : (s : CacheState) (a : ℕ) (x : Packet) (xs : List Packet) → IsTarget s a x → AreTargets s a xs → AreTargets s a (xs ++ x ∷ [])
targets_added s a x [] f ok = (f, tt)
targets_added s a x (y ∷ ys) f ok = (ok.0, targets_added s a x ys f ok.1)

pub joined_none : (a b : ℕ) (x : Packet) (rs : List Register) → find_register a rs ≡ None → find_register a (joined b x rs) ≡ None
joined_none a b x [] e = refl
joined_none a b x (r ∷ rs) e = by (joined_none a b x rs) (cases_eq r.address a) (cases_eq r.address b) where
  by : (find_register a rs ≡ None → find_register a (joined b x rs) ≡ None) → (r.address ≡ a) ⊎ (r.address ≡ a → ⊥) → (r.address ≡ b) ⊎ (r.address ≡ b → ⊥)
      → find_register a (if r.address == b then record r { targets = r.targets ++ x ∷ [] } ∷ rs else r ∷ joined b x rs) ≡ None
  by more (inl f) c = absurd (cc (sym (register_here a r rs f) ∙ e))
  by more (inr f) (inl g) = rw (eq-eqb r.address b g) (register_past a (record r { targets = r.targets ++ x ∷ [] }) rs f ∙ (sym (register_past a r rs f) ∙ e))
  by more (inr f) (inr g) = rw (ne_eqb r.address b g) (register_past a r (joined b x rs) f ∙ more (sym (register_past a r rs f) ∙ e))

-- a packet more that waits keeps what holds of the registers
pub registers_joined : (s : CacheState) (b : ℕ) (x : Packet) (rs : List Register) → has_full s.targets rs ≡ false → IsTarget s b x → AreRegisters s rs
    → AreRegisters s (joined b x rs)
registers_joined s b x [] full fits ok = tt
registers_joined s b x (r ∷ rs) full fits ok =
    by (registers_joined s b x rs (full_first s.targets r rs full).1 fits ok.2) (cases_eq r.address b) where
      by : AreRegisters s (joined b x rs) → (r.address ≡ b) ⊎ (r.address ≡ b → ⊥)
          → AreRegisters s (if r.address == b then record r { targets = r.targets ++ x ∷ [] } ∷ rs else r ∷ joined b x rs)
      by more (inl e) =
          rw (eq-eqb r.address b e) (
            (
              ok.0.0,
              omega (arith, length-append r.targets (x ∷ [])),
              omega (arith, length-append r.targets (x ∷ []), (full_first s.targets r rs full).0),
              targets_added s r.address x r.targets (subst (λ a. IsTarget s a x) (sym e) fits) ok.0.3,
            ),
            ok.1,
            ok.2,
          )
      by more (inr e) = rw (ne_eqb r.address b e) (ok.0, joined_none r.address b x rs ok.1, more)

-- and so does a register more
pub registers_added : (s : CacheState) (r : Register) (rs : List Register) → find_register r.address rs ≡ None → IsRegister s r → AreRegisters s rs
    → AreRegisters s (rs ++ r ∷ [])
registers_added s r [] free is ok = (is, refl, tt)
registers_added s r (k ∷ ks) free is ok = by (cases_eq k.address r.address) (registers_added s r ks) where
  by : (k.address ≡ r.address) ⊎ (k.address ≡ r.address → ⊥)
      → (find_register r.address ks ≡ None → IsRegister s r → AreRegisters s ks → AreRegisters s (ks ++ r ∷ [])) → AreRegisters s (k ∷ (ks ++ r ∷ []))
  by (inl e) more = absurd (cc (sym (register_here r.address k ks e) ∙ free))
  by (inr e) more = (ok.0, register-append k.address ks r (λ f. e (sym f)) ∙ ok.1, more (sym (register_past r.address k ks e) ∙ free) is ok.2)
