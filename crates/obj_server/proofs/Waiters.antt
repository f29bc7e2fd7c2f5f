-- Who waits for a place of a server, as a list of ports and as a flag.
use Rattle.std.proofs.Common.{◌≡◌, refl, Bool, true, false}
use Rattle.gm_model.specs.Flows.{is_some_port, is_listed, joined_once}
use Rattle.gm_model.specs.Server.{waiting_of}

pub waiter_kept : (w : Bool) → is_some_port (waiting_of w) ≡ w
waiter_kept true = refl
waiter_kept false = refl

pub waiter_joined : (w : Bool) → is_some_port (joined_once 0 (waiting_of w)) ≡ true
unfolding is_listed
waiter_joined true = refl
waiter_joined false = refl
