-- A part within its limits has the ports that its face shows, so what may wake it comes by a port that it has.
use Rattle.std.proofs.Common.{ℕ, ◌<◌, arith, length}
use Rattle.gm_words.specs.declared.wake.Wake.{Wake}
use Rattle.gm_words.specs.declared.wake.Wake.TheVariants as wakes
use Rattle.gm_model.specs.ObjState.{ObjState, Blank, AtomicCpu, TimingCpu, Xbar, Server}
use Rattle.gm_model.specs.Ports.{HasPort, ComesWithin}
use Rattle.gm_laws.specs.Bounds.{IsWithin}
use Rattle.gm_laws.specs.Face.{FaceOk, MayWake}
use Rattle.gm_laws.specs.Faces.{face_of}
use Rattle.gm_laws.proofs.Counts.{only_self}

pub port_had : (o : ObjState) (p : ℕ) → IsWithin o → p < (face_of o).ports → HasPort o p
unfolding IsWithin face_of
port_had (Blank k) p w l = tt
port_had (AtomicCpu s) p w l = tt
port_had (TimingCpu s) p w l = tt
port_had (Xbar s) p w l = let m : p < length s.lanes = l in omega (arith, m, w.1)
port_had (Server s) p w l = tt

-- it is told of an offer that it made, called where it was refused, and shown packets at its own ports
pub comes_within : (o : ObjState) (w : Wake) → IsWithin o → FaceOk (face_of o) → MayWake (face_of o) w → ComesWithin o w
comes_within o (wakes.Event slot) h ok may = tt
comes_within o (wakes.Offer port x) h ok may = port_had o port.0 h (may.there port.0 (omega (arith, only_self port.0 1)))
comes_within o (wakes.Taken port) h ok may = port_had o port.0 h (ok.within port.0 (omega (arith, may.told port.0, only_self port.0 1)))
comes_within o (wakes.Refused port) h ok may = port_had o port.0 h (ok.within port.0 (omega (arith, may.told port.0, only_self port.0 1)))
comes_within o (wakes.Retry port) h ok may = port_had o port.0 h (ok.within port.0 (omega (arith, may.retry port.0, only_self port.0 1)))
comes_within o (wakes.Line bit level) h ok may = tt
comes_within o (wakes.AtomicDone x latency) h ok may = tt
