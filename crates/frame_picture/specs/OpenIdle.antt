-- Idles that are open to requests.
use Rattle.std.specs.Prelude.{◌==◌, ◌&&◌, nat_lt, Bool}
use Rattle.map_codec.specs.declared.element.iuc.TheConstants.{REQUEST}
use Rattle.map_drawing.specs.declared.allocation.Allocation.{Allocation}
use Rattle.map_drawing.specs.declared.usage.TheConstants.{ALL_MODEMS}

-- whether an allocation is an open idle: all modems may ask there, and it is not the request region, which begins a
-- frame
unfoldable pub is_open_idle : Allocation → Bool
is_open_idle a = a.iuc == REQUEST && (a.sid == ALL_MODEMS && nat_lt 0 a.offset)
