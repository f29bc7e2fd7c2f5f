-- How long a delivery lasts. Each packet that is taken leaves its sender for this event, so ports at work only become fewer;
-- only what is taken calls; and what a served packet may still cause is known before.
use Rattle.std.specs.Prelude.{ℕ, zero, suc, ◌+◌, ◌*◌, ◌≤◌, List, [], ◌∷◌}
use Rattle.gm_model.specs.Deliver.{Item, Sent, Done}
use Rattle.gm_words.specs.declared.act.Act.{Act}
use Rattle.gm_words.specs.declared.act.Act.TheVariants as acts
use Rattle.gm_words.specs.declared.answer.Answer.{Answer}
use Rattle.gm_words.specs.declared.answer.Answer.TheVariants as answers
use Rattle.gm_words.specs.declared.wake.Wake.{Wake}
use Rattle.gm_words.specs.declared.wake.Wake.TheVariants as wakes
use Rattle.gm_laws.specs.Words.{offers, retry}
use Rattle.gm_laws.specs.Face.{Face}

abbrev pub weight_one : Act → ℕ
weight_one (acts.Offer p x) = 1
weight_one (acts.CallRetry p) = 2
weight_one (acts.SetLine b l) = 1
weight_one (acts.Atomic p x) = 4

abbrev pub weight : List Act → ℕ
weight [] = 0
weight (a ∷ rest) = weight_one a + weight rest

abbrev pub weight_of : List Item → ℕ
weight_of [] = 0
weight_of (Sent i a ∷ rest) = weight_one a + weight_of rest
weight_of (Done i x l ∷ rest) = 1 + weight_of rest

-- 1 where the packet was taken
abbrev pub took : Answer → ℕ
took answers.Taken = 1
took answers.Refused = 0
took answers.Nothing = 1

-- what the acts of a wake weigh at most
abbrev pub spend : Wake → Answer → ℕ
spend (wakes.Event s) a = 8
spend (wakes.Offer p x) a = 2 * took a
spend (wakes.Taken p) a = 2
spend (wakes.Refused p) a = 0
spend (wakes.Retry p) a = 1
spend (wakes.Line b l) a = 0
spend (wakes.AtomicDone x l) a = 0

abbrev pub is_taken : Wake → ℕ
is_taken (wakes.Event s) = 0
is_taken (wakes.Offer p x) = 0
is_taken (wakes.Taken p) = 1
is_taken (wakes.Refused p) = 0
is_taken (wakes.Retry p) = 0
is_taken (wakes.Line b l) = 0
is_taken (wakes.AtomicDone x l) = 0

-- how many ports may come to be at work
abbrev pub starts : Wake → ℕ
starts (wakes.Event s) = 1
starts (wakes.Offer p x) = 0
starts (wakes.Taken p) = 0
starts (wakes.Refused p) = 0
starts (wakes.Retry p) = 0
starts (wakes.Line b l) = 0
starts (wakes.AtomicDone x l) = 0

pub record Spends (f : Face) (w : Wake) (g : Face) (answer : Answer) (acts : List Act) : Type 0 where
  pub few : (p : ℕ) → offers p acts ≤ retry w p + starts w
  pub light : weight acts + g.toil ≤ f.toil + spend w answer

-- the ports below n that are asking or waiting
unfoldable pub busy_below : Face → ℕ → ℕ
busy_below f zero = 0
busy_below f (suc n) = f.asked n + f.waits n + busy_below f n

unfoldable pub busy : Face → ℕ
busy f = 4 * busy_below f f.ports + f.toil
