-- The ports of a crossbar: which addresses go out at one, and which slot and class its layer has. Ports at which requests come in stand
-- before those at which they go out. This project's own rule.
use Rattle.std.specs.Prelude.{ℕ, suc, ◌+◌, ◌-◌, ◌^◌, ◌==◌, ◌&&◌, ◌||◌, nat_le, nat_lt, Bool, true, false, not, if◌then◌else◌, List, [], ◌∷◌, ◌++◌, length, replicate, slice_index_or, Option, Some, None}
use Rattle.gm_words.specs.declared.port_use.PortUse.{PortUse}
use Rattle.gm_words.specs.declared.port_use.PortUse.TheVariants as uses

-- classes of a crossbar's events: at one tick responses go on before requests
abbrev pub response_class : ℕ
response_class = 0

abbrev pub request_class : ℕ
request_class = 10

-- the greatest address of 64 bits
abbrev pub last_address : ℕ
last_address = 2 ^ 64 - 1

-- the address goes out at a port with this use; a range up to the last address has no end
abbrev pub takes : PortUse → ℕ → Bool
takes uses.Source address = false
takes (uses.Destination first last) address = nat_le first address && (nat_le address last || (last == last_address))
takes uses.Unused address = false

-- all addresses do
abbrev pub takes_all : PortUse → Bool
takes_all uses.Source = false
takes_all (uses.Destination first last) = (first == 0) && (last == last_address)
takes_all uses.Unused = false

-- no address is left without a port
unfoldable pub is_total : List PortUse → Bool
is_total [] = false
is_total (u ∷ us) = takes_all u || is_total us

-- requests come in there
abbrev pub is_source : PortUse → Bool
is_source uses.Source = true
is_source (uses.Destination first last) = false
is_source uses.Unused = false

-- requests go out there
abbrev pub is_destination : PortUse → Bool
is_destination uses.Source = false
is_destination (uses.Destination first last) = true
is_destination uses.Unused = false

abbrev pub is_unused : PortUse → Bool
is_unused uses.Source = false
is_unused (uses.Destination first last) = false
is_unused uses.Unused = true

-- the uses up to the last port that has one
unfoldable pub used : List PortUse → List PortUse
used [] = []
used (u ∷ us) = keep u (used us) where
  keep : PortUse → List PortUse → List PortUse
  keep u (v ∷ vs) = u ∷ v ∷ vs
  keep u [] = if is_unused u then [] else u ∷ []

-- how many ports stand before the first at which requests go out
unfoldable pub fore : List PortUse → ℕ
fore [] = 0
fore (u ∷ us) = if is_destination u then 0 else suc (fore us)

-- and how many from there on
abbrev pub behind : List PortUse → ℕ
behind us = length us - fore us

-- 1 where there are addresses of no port, which have a layer of their own
abbrev pub sides : List PortUse → ℕ
sides us = if is_total us then 0 else 1

-- the slots: first of the layers for requests, then of the layer for addresses of no port, then of the layers for responses
abbrev pub xbar_classes : List PortUse → List ℕ
xbar_classes us = replicate (behind us + sides us) request_class ++ replicate (fore us) response_class

-- the slot and the class of a port's layer
abbrev pub slot_of_port : List PortUse → ℕ → ℕ
slot_of_port us p = if nat_lt p (fore us) then behind us + sides us + p else p - fore us

abbrev pub class_of_port : List PortUse → ℕ → ℕ
class_of_port us p = if nat_lt p (fore us) then response_class else request_class

-- the port of a slot that isn't of the layer for addresses of no port
abbrev pub port_of_slot : List PortUse → ℕ → ℕ
port_of_slot us slot = if nat_lt slot (behind us) then fore us + slot else slot - (behind us + sides us)

-- the slot of the layer for addresses of no port, where there is one
abbrev pub side_slot : List PortUse → ℕ
side_slot us = behind us

abbrev pub is_side_slot : List PortUse → ℕ → Bool
is_side_slot us slot = not (is_total us) && (slot == behind us)

abbrev pub use_at : List PortUse → ℕ → PortUse
use_at us p = slice_index_or us p uses.Unused

-- the first port from a number on at which an address goes out
unfoldable pub port_from : ℕ → List PortUse → ℕ → Option ℕ
port_from p [] address = None
port_from p (u ∷ us) address = if takes u address then Some p else port_from (suc p) us address

-- the first port from a number on at which requests come in
unfoldable pub source_from : ℕ → List PortUse → Option ℕ
source_from p [] = None
source_from p (u ∷ us) = if is_source u then Some p else source_from (suc p) us

-- that port, or the first of all where there is none
abbrev pub or_first : Option ℕ → ℕ
or_first None = 0
or_first (Some p) = p

-- the port of a response that came in by a port: that one, if requests come in there, else the first at which they do
abbrev pub source_port : List PortUse → ℕ → ℕ
source_port us p = if is_source (use_at us p) then p else or_first (source_from 0 us)
