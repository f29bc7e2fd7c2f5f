-- What wakes and acts say of a port, as numbers: 1 where it is said, else 0. And the weight of packets.
use Rattle.std.specs.Prelude.{◌≡◌, ℕ, ◌+◌, ◌==◌, if◌then◌else◌, List, [], ◌∷◌, ◌⊎◌}
use Rattle.gm_words.specs.declared.act.Act.{Act}
use Rattle.gm_words.specs.declared.act.Act.TheVariants as acts
use Rattle.gm_words.specs.declared.answer.Answer.{Answer}
use Rattle.gm_words.specs.declared.answer.Answer.TheVariants as answers
use Rattle.pkt_pool.specs.declared.packet.Packet.{Packet}
use Rattle.gm_words.specs.declared.wake.Wake.{Wake}
use Rattle.gm_words.specs.declared.wake.Wake.TheVariants as wakes
use Rattle.gm_model.specs.Deliver.{Item, Sent, Done}
use Rattle.gm_words.specs.Moves.{Service}

-- n where two numbers are one, else 0
unfoldable pub only : ℕ → ℕ → ℕ → ℕ
only i k n = if i == k then n else 0

abbrev pub offer_one : ℕ → Act → ℕ
offer_one p (acts.Offer q x) = only q.0 p 1
offer_one p (acts.CallRetry q) = 0
offer_one p (acts.SetLine b l) = 0
offer_one p (acts.Atomic q x) = 0

abbrev pub call_one : ℕ → Act → ℕ
call_one p (acts.Offer q x) = 0
call_one p (acts.CallRetry q) = only q.0 p 1
call_one p (acts.SetLine b l) = 0
call_one p (acts.Atomic q x) = 0

-- the offers at the port among acts, and the calls
abbrev pub offers : ℕ → List Act → ℕ
offers p [] = 0
offers p (a ∷ rest) = offer_one p a + offers p rest

abbrev pub calls : ℕ → List Act → ℕ
calls p [] = 0
calls p (a ∷ rest) = call_one p a + calls p rest

-- the same of the part k among items
abbrev pub offered_by : ℕ → ℕ → List Item → ℕ
offered_by k p [] = 0
offered_by k p (Sent i a ∷ rest) = only i k (offer_one p a) + offered_by k p rest
offered_by k p (Done i x l ∷ rest) = offered_by k p rest

abbrev pub called_by : ℕ → ℕ → List Item → ℕ
called_by k p [] = 0
called_by k p (Sent i a ∷ rest) = only i k (call_one p a) + called_by k p rest
called_by k p (Done i x l ∷ rest) = called_by k p rest

-- what the wake says of a port: that its offer was answered, taken, refused; that it is called; that it is shown a packet
abbrev pub told : Wake → ℕ → ℕ
told (wakes.Event s) p = 0
told (wakes.Offer q x) p = 0
told (wakes.Taken q) p = only q.0 p 1
told (wakes.Refused q) p = only q.0 p 1
told (wakes.Retry q) p = 0
told (wakes.Line b l) p = 0
told (wakes.AtomicDone x l) p = 0

abbrev pub taken : Wake → ℕ → ℕ
taken (wakes.Event s) p = 0
taken (wakes.Offer q x) p = 0
taken (wakes.Taken q) p = only q.0 p 1
taken (wakes.Refused q) p = 0
taken (wakes.Retry q) p = 0
taken (wakes.Line b l) p = 0
taken (wakes.AtomicDone x l) p = 0

abbrev pub refused : Wake → ℕ → ℕ
refused (wakes.Event s) p = 0
refused (wakes.Offer q x) p = 0
refused (wakes.Taken q) p = 0
refused (wakes.Refused q) p = only q.0 p 1
refused (wakes.Retry q) p = 0
refused (wakes.Line b l) p = 0
refused (wakes.AtomicDone x l) p = 0

abbrev pub retry : Wake → ℕ → ℕ
retry (wakes.Event s) p = 0
retry (wakes.Offer q x) p = 0
retry (wakes.Taken q) p = 0
retry (wakes.Refused q) p = 0
retry (wakes.Retry q) p = only q.0 p 1
retry (wakes.Line b l) p = 0
retry (wakes.AtomicDone x l) p = 0

abbrev pub shown : Wake → ℕ → ℕ
shown (wakes.Event s) p = 0
shown (wakes.Offer q x) p = only q.0 p 1
shown (wakes.Taken q) p = 0
shown (wakes.Refused q) p = 0
shown (wakes.Retry q) p = 0
shown (wakes.Line b l) p = 0
shown (wakes.AtomicDone x l) p = 0

abbrev pub where_refused : Answer → ℕ → ℕ
where_refused answers.Taken n = 0
where_refused answers.Refused n = n
where_refused answers.Nothing n = 0

-- 1 where the wake is an offer at the port that was refused
abbrev pub rejected : Wake → Answer → ℕ → ℕ
rejected (wakes.Event s) a p = 0
rejected (wakes.Offer q x) a p = where_refused a (only q.0 p 1)
rejected (wakes.Taken q) a p = 0
rejected (wakes.Refused q) a p = 0
rejected (wakes.Retry q) a p = 0
rejected (wakes.Line b l) a p = 0
rejected (wakes.AtomicDone x l) a p = 0

-- the element stands in the list
abbrev pub IsIn : {A : Type 0} → A → List A → Type 0
IsIn a [] = ⊥
IsIn a (b ∷ rest) = (b ≡ a) ⊎ IsIn a rest

-- the offer of a packet at a port, and as an item
abbrev pub offer_out : ℕ → Packet → Act
offer_out p x = acts.Offer (record { 0 = p }) x

-- a number for each packet that doesn't look at where the packet goes
abbrev pub IsBlind : (Packet → ℕ) → Type 0
IsBlind f = (x : Packet) (stack : List ℕ) (depth : ℕ) → f (record x { stack = stack; depth = depth }) ≡ f x

-- the sum over packets
abbrev pub weigh : (Packet → ℕ) → List Packet → ℕ
weigh f [] = 0
weigh f (x ∷ xs) = f x + weigh f xs

abbrev pub requests_of : List Service → List Packet
requests_of [] = []
requests_of (v ∷ vs) = v.request ∷ requests_of vs

abbrev pub responses_of : List Service → List Packet
responses_of [] = []
responses_of (v ∷ vs) = v.response ∷ responses_of vs

-- what is counted of an offered packet by the answer
abbrev pub where_taken : Answer → ℕ → ℕ
where_taken answers.Taken n = n
where_taken answers.Refused n = 0
where_taken answers.Nothing n = n
