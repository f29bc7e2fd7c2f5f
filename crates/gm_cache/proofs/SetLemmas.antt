-- How sets and their lines change.
use Rattle.std.proofs.Common.{◌≡◌, ℕ, zero, suc, ◌+◌, ◌/◌, ◌<◌, ◌≤◌, ◌⊎◌, inl, inr, List, [], ◌∷◌, ◌++◌, length, take, get_or, set, Option, Some, None, refl, sym, ◌∙◌, ap, subst, arith, eq-eqb, ne_eqb, ◌==◌, cond, if◌then◌else◌, mod-lt, get_or-set_same, get_or-set_other}
use Rattle.std.specs.Prelude.{slice_get}
use Rattle.std.proofs.lemmas.Bool.{cases_eq}
use Rattle.cache_tags.specs.Line.{Line, without_line}
use Rattle.gm_cache.specs.State.{CacheState, set_of, set_at, with_set, find_line}
use Rattle.gm_cache.specs.Lines.{AreLines, IsLineOf, HasSets}

module _ (s : CacheState) (ok : HasSets s) where
  pub set_below : (a : ℕ) → set_of s a < length s.lines
  set_below a = omega (arith, mod-lt (a / s.common.line) ok.some_sets, ok.count)

  pub set_same : (b : ℕ) (ls : List Line) (a : ℕ) → set_of s a ≡ set_of s b → set_at (with_set s b ls) a ≡ ls
  set_same b ls a e = ap (λ i. get_or (set s.lines (set_of s b) ls) i []) e ∙ get_or-set_same s.lines (set_of s b) ls [] (set_below b)

  pub set_other : (b : ℕ) (ls : List Line) (a : ℕ) → (set_of s a ≡ set_of s b → ⊥) → set_at (with_set s b ls) a ≡ set_at s a
  set_other b ls a n = get_or-set_other s.lines (set_of s b) (set_of s a) ls [] n

-- the line that is found has the address
pub found_line : (a : ℕ) (ls : List Line) (l : Line) → find_line a ls ≡ Some l → l.address ≡ a
found_line a [] l e = absurd (cc e)
found_line a (k ∷ ks) l e = by (found_line a ks l) (cases_eq k.address a) e where
  by : (find_line a ks ≡ Some l → l.address ≡ a) → (k.address ≡ a) ⊎ (k.address ≡ a → ⊥) → cond (k.address == a) (Some k) (find_line a ks) ≡ Some l
      → l.address ≡ a
  by more (inl f) h = let same : k ≡ l = cc (rw (eq-eqb k.address a f) at h) in ap (λ (x : Line). x.address) (sym same) ∙ f
  by more (inr f) h = more (rw (ne_eqb k.address a f) at h)

pub find_here : (a : ℕ) (l : Line) (ls : List Line) → l.address ≡ a → find_line a (l ∷ ls) ≡ Some l
find_here a l ls e = rw (eq-eqb l.address a e) refl

pub find_past : (a : ℕ) (l : Line) (ls : List Line) → (l.address ≡ a → ⊥) → find_line a (l ∷ ls) ≡ find_line a ls
find_past a l ls n = rw (ne_eqb l.address a n) refl

-- a line is not found, nor is it the first
pub not_first : (a : ℕ) (l : Line) (ls : List Line) → find_line a (l ∷ ls) ≡ None → l.address ≡ a → ⊥
not_first a l ls e f = cc (e, find_here a l ls f)

pub not_later : (a : ℕ) (l : Line) (ls : List Line) → find_line a (l ∷ ls) ≡ None → find_line a ls ≡ None
not_later a l ls e = sym (find_past a l ls (not_first a l ls e)) ∙ e

-- without one line
pub find_without : (a b : ℕ) (ls : List Line) → (b ≡ a → ⊥) → find_line a (without_line b ls) ≡ find_line a ls
find_without a b [] n = refl
find_without a b (l ∷ ls) n = by (find_without a b ls n) (cases_eq l.address b) where
  by : find_line a (without_line b ls) ≡ find_line a ls → (l.address ≡ b) ⊎ (l.address ≡ b → ⊥)
      → find_line a (if l.address == b then ls else l ∷ without_line b ls) ≡ find_line a (l ∷ ls)
  by more (inl e) = rw (eq-eqb l.address b e) (sym (find_past a l ls (λ f. n (sym e ∙ f))))
  by more (inr e) = rw (ne_eqb l.address b e) (first (cases_eq l.address a)) where
    first : (l.address ≡ a) ⊎ (l.address ≡ a → ⊥) → find_line a (l ∷ without_line b ls) ≡ find_line a (l ∷ ls)
    first (inl f) = find_here a l (without_line b ls) f ∙ sym (find_here a l ls f)
    first (inr f) = find_past a l (without_line b ls) f ∙ (more ∙ sym (find_past a l ls f))

-- it is gone
pub gone_line : (s : CacheState) (i b : ℕ) (ls : List Line) → AreLines s i ls → find_line b (without_line b ls) ≡ None
gone_line s i b [] ok = refl
gone_line s i b (l ∷ ls) ok = by (gone_line s i b ls ok.2) (cases_eq l.address b) where
  by : find_line b (without_line b ls) ≡ None → (l.address ≡ b) ⊎ (l.address ≡ b → ⊥)
      → find_line b (if l.address == b then ls else l ∷ without_line b ls) ≡ None
  by more (inl e) = rw (eq-eqb l.address b e) (subst (λ x. find_line x ls ≡ None) e ok.1)
  by more (inr e) = rw (ne_eqb l.address b e) (find_past b l (without_line b ls) e ∙ more)

pub lines_without : (s : CacheState) (i b : ℕ) (ls : List Line) → AreLines s i ls → AreLines s i (without_line b ls)
lines_without s i b [] ok = tt
lines_without s i b (l ∷ ls) ok = by (lines_without s i b ls ok.2) (cases_eq l.address b) where
  by : AreLines s i (without_line b ls) → (l.address ≡ b) ⊎ (l.address ≡ b → ⊥) → AreLines s i (if l.address == b then ls else l ∷ without_line b ls)
  by more (inl e) = rw (eq-eqb l.address b e) ok.2
  by more (inr e) = rw (ne_eqb l.address b e) (ok.0, find_without l.address b ls (λ f. e (sym f)) ∙ ok.1, more)

-- one line fewer, where it was there
pub length-without : (b : ℕ) (ls : List Line) (l : Line) → find_line b ls ≡ Some l → length (without_line b ls) + 1 ≡ length ls
length-without b [] l e = absurd (cc e)
length-without b (k ∷ ks) l e = by (length-without b ks l) (cases_eq k.address b) where
  by : (find_line b ks ≡ Some l → length (without_line b ks) + 1 ≡ length ks) → (k.address ≡ b) ⊎ (k.address ≡ b → ⊥)
      → length (if k.address == b then ks else k ∷ without_line b ks) + 1 ≡ length (k ∷ ks)
  by more (inl f) = rw (eq-eqb k.address b f) (omega arith)
  by more (inr f) = rw (ne_eqb k.address b f) (omega (arith, more (sym (find_past b k ks f) ∙ e)))

-- a list's front, and its last line
pub none_front : (a : ℕ) (ks rs : List Line) → find_line a (ks ++ rs) ≡ None → find_line a ks ≡ None
none_front a [] rs e = refl
none_front a (k ∷ ks) rs e = find_past a k ks (not_first a k (ks ++ rs) e) ∙ none_front a ks rs (not_later a k (ks ++ rs) e)

-- a line that isn't found isn't among the last ones
pub none_later : (a : ℕ) (ks rs : List Line) → find_line a (ks ++ rs) ≡ None → find_line a rs ≡ None
none_later a [] rs e = e
none_later a (k ∷ ks) rs e = none_later a ks rs (not_later a k (ks ++ rs) e)

pub some_front : (a : ℕ) (ks rs : List Line) (l : Line) → find_line a ks ≡ Some l → find_line a (ks ++ rs) ≡ Some l
some_front a [] rs l e = absurd (cc e)
some_front a (k ∷ ks) rs l e = by (some_front a ks rs l) (cases_eq k.address a) where
  by : (find_line a ks ≡ Some l → find_line a (ks ++ rs) ≡ Some l) → (k.address ≡ a) ⊎ (k.address ≡ a → ⊥) → find_line a (k ∷ (ks ++ rs)) ≡ Some l
  by more (inl f) = find_here a k (ks ++ rs) f ∙ (sym (find_here a k ks f) ∙ e)
  by more (inr f) = find_past a k (ks ++ rs) f ∙ more (sym (find_past a k ks f) ∙ e)

pub lines_front : (s : CacheState) (i : ℕ) (ls rest : List Line) → AreLines s i (ls ++ rest) → AreLines s i ls
lines_front s i [] rest ok = tt
lines_front s i (l ∷ ls) rest ok = (ok.0, none_front l.address ls rest ok.1, lines_front s i ls rest ok.2)

pub lines_later : (s : CacheState) (i : ℕ) (ls rest : List Line) → AreLines s i (ls ++ rest) → AreLines s i rest
lines_later s i [] rest ok = ok
lines_later s i (l ∷ ls) rest ok = lines_later s i ls rest ok.2

pub find_front : (a : ℕ) (ls : List Line) (v : Line) → (v.address ≡ a → ⊥) → find_line a (ls ++ v ∷ []) ≡ find_line a ls
find_front a [] v n = find_past a v [] n
find_front a (l ∷ ls) v n = by (find_front a ls v n) (cases_eq l.address a) where
  by : find_line a (ls ++ v ∷ []) ≡ find_line a ls → (l.address ≡ a) ⊎ (l.address ≡ a → ⊥) → find_line a (l ∷ (ls ++ v ∷ [])) ≡ find_line a (l ∷ ls)
  by more (inl e) = find_here a l (ls ++ v ∷ []) e ∙ sym (find_here a l ls e)
  by more (inr e) = find_past a l (ls ++ v ∷ []) e ∙ (more ∙ sym (find_past a l ls e))

-- the last one isn't before it
pub last_apart : (s : CacheState) (i : ℕ) (ls : List Line) (v : Line) → AreLines s i (ls ++ v ∷ []) → find_line v.address ls ≡ None
last_apart s i [] v ok = refl
last_apart s i (l ∷ ls) v ok = find_past v.address l ls (λ e. other ls e ok.1) ∙ last_apart s i ls v ok.2 where
  other : (ks : List Line) → l.address ≡ v.address → find_line l.address (ks ++ v ∷ []) ≡ None → ⊥
  other [] e h = not_first l.address v [] h (sym e)
  other (k ∷ ks) e h = other ks e (not_later l.address k (ks ++ v ∷ []) h)

pub find_last : (s : CacheState) (i : ℕ) (ls : List Line) (v : Line) → AreLines s i (ls ++ v ∷ []) → find_line v.address (ls ++ v ∷ []) ≡ Some v
find_last s i [] v ok = find_here v.address v [] refl
find_last s i (l ∷ ls) v ok =
    find_past v.address l (ls ++ v ∷ []) (not_first v.address l ls (last_apart s i (l ∷ ls) v ok)) ∙ find_last s i ls v ok.2

-- the line that was found belongs to its set
pub line_facts : (s : CacheState) (i a : ℕ) (ls : List Line) (l : Line) → AreLines s i ls → find_line a ls ≡ Some l → IsLineOf s i l
line_facts s i a [] l ok e = absurd (cc e)
line_facts s i a (k ∷ ks) l ok e = by (line_facts s i a ks l ok.2) (cases_eq k.address a) where
  by : (find_line a ks ≡ Some l → IsLineOf s i l) → (k.address ≡ a) ⊎ (k.address ≡ a → ⊥) → IsLineOf s i l
  by more (inl f) = let same : k ≡ l = cc (sym (find_here a k ks f) ∙ e) in subst (λ (x : Line). IsLineOf s i x) same ok.0
  by more (inr f) = more (sym (find_past a k ks f) ∙ e)

-- the line that leaves, as a list
abbrev pub leavers : Option Line → List Line
leavers None = []
leavers (Some v) = v ∷ []

-- of a set with at most one line more than so many, these stay and that one leaves
pub stays_leaves : (k : ℕ) (ls : List Line) → length ls ≤ k + 1 → take k ls ++ leavers (slice_get ls k) ≡ ls
stays_leaves zero [] few = refl
stays_leaves (suc k) [] few = refl
stays_leaves zero (l ∷ []) few = refl
stays_leaves zero (l ∷ j ∷ ks) few = absurd (omega arith)
stays_leaves (suc k) (l ∷ ls) few = ap (λ xs. l ∷ xs) (stays_leaves k ls (omega arith))
