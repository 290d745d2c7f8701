-- Where a pair of the map lies after each change of its tables, in either mode.
use Rattle.std.specs.Prelude.{◌≡◌, ℕ, ◌<◌, ◌≤◌, Bool, true, false, if◌then◌else◌}
use Rattle.std.proofs.Common.{refl, ap}
use Rattle.run_shows.specs.Given.RunsDeclared.effect.Spot.{Spot}
use Rattle.run_shows.specs.Given.SchedulesEffects.{later}
use Rattle.run_shows.specs.Given.RuleChart.{Copying, Holds, Chart}
use Rattle.run_shows.specs.Given.RuleRule.{IsLawful, Rule}
use Rattle.run_shows.specs.Given.RuleMoves.{Move, Puts, PutsLate, Promotes, Allowed, after}
use Rattle.run_places.specs.Spots.Spots.{spot_in, LiesAt, IsCopiedTo}
use Rattle.run_places.proofs.Spots.Copies.{puts_lies, promotes_lies, puts_copied, puts_stays, late_stays, late_copied, copy_is, promotes_there, promotes_copied}
use Rattle.run_places.proofs.Spots.Moves.{Spares, keeps_move}
use Rattle.run_places.proofs.Spots.Names.{lies_on, copied_on}

-- where it lies, and where its newest copy does
pub record Lies {K : Type 0} (incremental : Bool) (c : Chart K) (n : ℕ) (s copy : Spot) (born : ℕ) : Type 0 where
  pub lies : LiesAt c incremental n s born
  pub copied : incremental ≡ false → IsCopiedTo c n copy

module _ {K : Type 0} (same : K → K → Bool) (spot : ℕ → K → ℕ → ℕ) (lawful : IsLawful same spot) (c : Chart K) (n : ℕ) (s copy : Spot) (born : ℕ) where
  pub plain_lies : (q : Bool) → Rule same spot q c → n < c.stored → (move : Move K) → Allowed same spot q move c → Spares c n move → (after spot q move c).current n ≡ true
      → Lies q c n s copy born → Lies q (after spot q move c) n s copy born
  plain_lies q rule old move allowed spares now h =
      let k = keeps_move same spot q c rule n old move allowed spares now in
      record {
        lies = lies_on c (after spot q move c) n q k s born h.lies;
        copied = λ e. copied_on c (after spot q move c) n k copy (h.copied e);
      }

  abbrev sent : ℕ → K → ℕ → Spot
  sent t k j = spot_in t (spot (c.len t) k j)

  pub put_lies : (q : Bool) → Rule same spot q c → (caller i t : ℕ) (k : K) (j : ℕ) (b : Bool) → Allowed same spot q (Puts caller i t k j) c → c.place c.first i ≡ Holds n Copying b → born ≤ c.first
      → Lies q c n s copy born → Lies q (after spot q (Puts caller i t k j) c) n (if q then later s (sent t k j) else s) (later copy (sent t k j)) born
  put_lies true rule caller i t k j b allowed held before h = record {
    lies = puts_lies same spot lawful c rule caller i t k j n b allowed held s born before h.lies;
    copied = λ e. absurd (cc e);
  }
  put_lies false rule caller i t k j b allowed held before h = record {
    lies = puts_stays same spot lawful c rule caller i t k j n b allowed held copy (h.copied refl) s born h.lies;
    copied = λ e. puts_copied same spot lawful c rule caller i t k j n b allowed held copy (h.copied refl);
  }

  pub late_lies : (q : Bool) → Rule same spot q c → (t i : ℕ) → Allowed same spot q (PutsLate t i n) c
      → Lies q c n s copy born → Lies q (after spot q (PutsLate t i n) c) n (if q then later s (spot_in t i) else s) (later copy (spot_in t i)) born
  late_lies true rule t i allowed h = absurd (let e = allowed.0 in cc e)
  late_lies false rule t i allowed h = record {
    lies = late_stays same spot lawful c rule t i n allowed s born h.lies;
    copied = λ e. late_copied same spot lawful c rule t i n allowed copy (h.copied refl);
  }

  -- where the root comes to it
  abbrev pub Comes : Bool → ℕ → Type 0
  Comes q t = Lies q (after spot q (Promotes t) c) n (if q then s else copy) copy born × (q ≡ false → copy.turn ≡ t)

  pub promote_lies : (q : Bool) → Rule same spot q c → (t : ℕ) → Allowed same spot q (Promotes t) c → c.current n ≡ true → Lies q c n s copy born → Comes q t
  promote_lies true rule t allowed current h = (
    record { lies = promotes_lies same spot lawful c rule t n allowed current s born h.lies; copied = λ e. absurd (cc e) },
    λ e. absurd (cc e),
  )
  promote_lies false rule t allowed current h = (
    record {
      lies = promotes_there same spot lawful c rule t n allowed s copy born h.lies (h.copied refl);
      copied = λ e. promotes_copied same spot lawful c rule t n allowed s copy born h.lies (h.copied refl);
    },
    λ e. ap (λ (x : Spot). x.turn) (copy_is same spot lawful c rule t n allowed s copy born h.lies (h.copied refl)),
  )
