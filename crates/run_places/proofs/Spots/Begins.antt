-- Pairs lie nowhere as a run begins, and lie where they lay where nothing has changed but calls, or a map stands no more.
use Rattle.std.proofs.Common.{refl}
use Rattle.run_places.specs.Spots.Steps.{PlacesBegin, BlocksBegin, CallsLeavePlaces, FewerMapsStand}

pub places_begin : (K V : Type 0) → PlacesBegin K V
places_begin K V roots = record { each = λ map standing is. absurd (cc is); fresh = λ k l. refl }

pub blocks_begin : (K V : Type 0) → BlocksBegin K V
blocks_begin K V = record {
  pairs = λ b k is. absurd (cc is);
  pairs_there = λ k e. absurd (cc e);
  tables = λ b len t is. absurd (cc is);
  tables_there = λ t e. absurd (cc e);
  tables_once = λ b d len len2 t is is2. absurd (cc is);
}

pub calls_leave_places : (K V : Type 0) → CallsLeavePlaces K V
calls_leave_places K V m known maps lying held calls = (
  record {
    each = λ map standing is.
        (let h = lying.each map standing is in record { born = h.born; whole = h.whole; lies = h.lies; copied = λ e n k pair current. (let c = h.copied e n k pair current in c) });
    fresh = lying.fresh;
  },
  record { pairs = held.pairs; pairs_there = held.pairs_there; tables = held.tables; tables_there = held.tables_there; tables_once = held.tables_once },
)

pub fewer_maps_stand : (K V : Type 0) → FewerMapsStand K V
fewer_maps_stand K V m known maps maps2 fewer lying = record { each = λ map standing is. lying.each map standing (fewer map standing is); fresh = lying.fresh }
