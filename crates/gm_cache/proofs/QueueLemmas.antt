-- Where lines begin, and how what a queue asks of a line changes.
use Rattle.std.proofs.Common.{◌≡◌, ℕ, ◌+◌, ◌-◌, ◌*◌, ◌/◌, ◌%◌, ◌<◌, ◌≤◌, ◌&&◌, Bool, true, false, if◌then◌else◌, List, [], ◌∷◌, ◌++◌, length, drop, replicate, refl, sym, ◌∙◌, ap, arith, eq-eqb, ne_eqb, ◌==◌, append_assoc, append-nil, take_at}
use Rattle.std.proofs.lemmas.Bool.{le-leb, and_from}
use Rattle.std.proofs.lemmas.Nat.{div-add-mod', mod-mul-add}
use Rattle.gm_cache.specs.State.{CacheState, base_of}
use Rattle.gm_cache.specs.Rule.{back_bit, backs, is_cached, line_request}
use Rattle.gm_cache.specs.Lines.{ReadLine, Back, request_of, requests_in, requests}
use Rattle.gm_model.specs.Flows.{Outlet, put_in, ask_in, hold_in, again_in, gone_in}
use Rattle.gm_words.specs.Flow.{Queued, OutState, Quiet, Due, Asked, Waits}
use Rattle.pkt_pool.specs.Packet.{carried_bytes}
use Rattle.pkt_pool.specs.declared.cmd.Cmd.{Cmd}
use Rattle.pkt_pool.specs.declared.cmd.Cmd.TheVariants as cmds
use Rattle.pkt_pool.specs.declared.packet.Packet.{Packet}

-- a line begins at a multiple of its size
pub base_multiple : (s : CacheState) (a : ℕ) → 0 < s.common.line → base_of s a % s.common.line ≡ 0
base_multiple s a some =
    let n = s.common.line in
    let e : a - a % n ≡ a / n * n + 0 = omega (arith, div-add-mod' a n) in
    ap (λ x. x % n) e ∙ mod-mul-add (a / n) n 0 some

pub base_same : (s : CacheState) (a : ℕ) → a % s.common.line ≡ 0 → base_of s a ≡ a
base_same s a e = omega (arith, e)

-- Packets of a line.

pub requests_of : (s : CacheState) (a : ℕ) (x : Packet) → is_cached s x ≡ true → base_of s x.addr ≡ a → requests_in s a x ≡ request_of x x.cmd
requests_of s a x c e =
    ap (λ b. if b && (base_of s x.addr == a) then request_of x x.cmd else []) c
    ∙ ap (λ b. if b then request_of x x.cmd else []) (eq-eqb (base_of s x.addr) a e)

pub requests_none : (s : CacheState) (a : ℕ) (x : Packet) → is_cached s x ≡ false → requests_in s a x ≡ []
requests_none s a x c = ap (λ b. if b && (base_of s x.addr == a) then request_of x x.cmd else []) c

pub requests_other : (s : CacheState) (a : ℕ) (x : Packet) → (base_of s x.addr ≡ a → ⊥) → requests_in s a x ≡ []
requests_other s a x n =
    ap (λ b. if is_cached s x && b then request_of x x.cmd else []) (ne_eqb (base_of s x.addr) a n) ∙ by (is_cached s x) where
      by : (b : Bool) → (if b && false then request_of x x.cmd else []) ≡ []
      by true = refl
      by false = refl

-- Own requests.

-- the bytes of an own request of a whole line
pub carried_own : (s : CacheState) (n : ℕ) (cmd : Cmd) (b : ℕ) (bytes : List ℕ) → length bytes ≡ s.common.line
    → carried_bytes (line_request s n cmd b bytes) ≡ bytes
carried_own s n cmd b bytes e = take_at bytes (drop (length bytes) (replicate 64 0)) s.common.line e

pub cached_read : (s : CacheState) (n b : ℕ) (bytes : List ℕ) → b % s.common.line ≡ 0 → is_cached s (line_request s n cmds.Read b bytes) ≡ true
cached_read s n b bytes e = le-leb (b % s.common.line + s.common.line) s.common.line (omega (arith, e))

pub cached_back : (s : CacheState) (n b : ℕ) (bytes : List ℕ) → b % s.common.line ≡ 0 → length bytes ≡ s.common.line
    → is_cached s (line_request s n cmds.WriteBack b bytes) ≡ true
cached_back s n b bytes e l =
    and_from (b % s.common.line == 0) (length (carried_bytes (line_request s n cmds.WriteBack b bytes)) == s.common.line) (eq-eqb (b % s.common.line) 0 e)
    (eq-eqb (length (carried_bytes (line_request s n cmds.WriteBack b bytes))) s.common.line (ap length (carried_own s n cmds.WriteBack b bytes l) ∙ l))

-- an own request is of its line alone
pub own_read : (s : CacheState) (n b : ℕ) (bytes : List ℕ) → b % s.common.line ≡ 0 → requests_in s b (line_request s n cmds.Read b bytes) ≡ ReadLine ∷ []
own_read s n b bytes e = requests_of s b (line_request s n cmds.Read b bytes) (cached_read s n b bytes e) (base_same s b e)

pub own_back : (s : CacheState) (n b : ℕ) (bytes : List ℕ) → b % s.common.line ≡ 0 → length bytes ≡ s.common.line
    → requests_in s b (line_request s n cmds.WriteBack b bytes) ≡ Back bytes ∷ []
own_back s n b bytes e l =
    requests_of s b (line_request s n cmds.WriteBack b bytes) (cached_back s n b bytes e l) (base_same s b e)
    ∙ ap (λ x. Back x ∷ []) (carried_own s n cmds.WriteBack b bytes l)

pub own_other : (s : CacheState) (a n : ℕ) (cmd : Cmd) (b : ℕ) (bytes : List ℕ) → b % s.common.line ≡ 0 → (b ≡ a → ⊥)
    → requests_in s a (line_request s n cmd b bytes) ≡ []
own_other s a n cmd b bytes e h = requests_other s a (line_request s n cmd b bytes) (λ f. h (sym (base_same s b e) ∙ f))

-- Queues.

pub requests-append : (s : CacheState) (a : ℕ) (xs ys : List Queued) → requests s a (xs ++ ys) ≡ requests s a xs ++ requests s a ys
requests-append s a [] ys = refl
requests-append s a (x ∷ xs) ys =
    ap (λ r. requests_in s a x.packet ++ r) (requests-append s a xs ys) ∙ sym (append_assoc (requests_in s a x.packet) (requests s a xs) (requests s a ys))

pub requests-put : (s : CacheState) (a : ℕ) (o : Outlet) (x : Packet) (ready : ℕ) (items : List Queued) (out : OutState)
    → requests s a (put_in o x ready items out).flow.items ≡ requests s a items ++ requests_in s a x
requests-put s a o x ready [] out = append-nil (requests_in s a x)
requests-put s a o x ready (z ∷ zs) out =
    requests-append s a (z ∷ zs) (record { packet = x; ready = ready } ∷ []) ∙ ap (λ r. requests s a (z ∷ zs) ++ r) (append-nil (requests_in s a x))

pub backs-append : (xs ys : List Queued) → backs (xs ++ ys) ≡ backs xs + backs ys
unfolding backs
backs-append [] ys = omega arith
backs-append (x ∷ xs) ys = omega (arith, backs-append xs ys)

pub backs-put : (o : Outlet) (x : Packet) (ready : ℕ) (items : List Queued) (out : OutState)
    → backs (put_in o x ready items out).flow.items ≡ backs items + back_bit x.cmd
unfolding backs
backs-put o x ready [] out = omega arith
backs-put o x ready (z ∷ zs) out = omega (arith, backs-append (z ∷ zs) (record { packet = x; ready = ready } ∷ []))

pub one_back : (cmd : Cmd) → back_bit cmd ≤ 1
one_back cmds.Read = omega arith
one_back cmds.Write = omega arith
one_back cmds.WriteBack = omega arith
one_back cmds.ReadResp = omega arith
one_back cmds.WriteResp = omega arith

pub backs-gone : (o : Outlet) (at : ℕ) (items : List Queued) → backs (gone_in o at items).flow.items ≤ backs items
unfolding backs
backs-gone o at [] = omega arith
backs-gone o at (x ∷ []) = omega arith
backs-gone o at (x ∷ y ∷ ys) = omega arith

-- the head is gone
pub requests-gone : (s : CacheState) (a : ℕ) (o : Outlet) (at : ℕ) (x : Queued) (rest : List Queued)
    → requests s a (x ∷ rest) ≡ requests_in s a x.packet ++ requests s a (gone_in o at (x ∷ rest)).flow.items
requests-gone s a o at x [] = refl
requests-gone s a o at x (y ∷ ys) = refl

pub ask_same : (p : ℕ) (items : List Queued) (out : OutState) → (ask_in p items out).flow.items ≡ items
ask_same p [] out = refl
ask_same p (x ∷ xs) Quiet = refl
ask_same p (x ∷ xs) Due = refl
ask_same p (x ∷ xs) Asked = refl
ask_same p (x ∷ xs) Waits = refl

pub hold_same : (items : List Queued) (out : OutState) → (hold_in items out).flow.items ≡ items
hold_same items Quiet = refl
hold_same items Due = refl
hold_same items Asked = refl
hold_same items Waits = refl

pub again_same : (p : ℕ) (items : List Queued) (out : OutState) → (again_in p items out).flow.items ≡ items
again_same p [] out = refl
again_same p (x ∷ xs) Quiet = refl
again_same p (x ∷ xs) Due = refl
again_same p (x ∷ xs) Asked = refl
again_same p (x ∷ xs) Waits = refl
