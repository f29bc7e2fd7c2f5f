-- The platform's table in code, as the definitions have it. This project's own rule.
use Rattle.std.specs.Prelude.{map}
use Rattle.std.specs.Option.{option_map}
use Rattle.gm_words.specs.Platform.{End, Part, Range}
use Rattle.gm_words.specs.declared.platform.End.{End as KeptEnd}
use Rattle.gm_words.specs.declared.platform.Part.{Part as KeptPart}
use Rattle.gm_words.specs.declared.platform.Range.{Range as KeptRange}

abbrev pub range_shown : KeptRange → Range
range_shown r = record { first = r.first; last = r.last }

abbrev pub end_shown : KeptEnd → End
end_shown e = record { part = e.part.0; port = e.port.0 }

abbrev pub part_shown : KeptPart → Part
part_shown p = record {
  path = p.path.now;
  own = p.own;
  range = option_map range_shown p.range;
  peers = map end_shown p.peers.items;
  ways = map end_shown p.ways.items;
}
