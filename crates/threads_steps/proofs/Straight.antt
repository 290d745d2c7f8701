-- Straight code for the lookup of a seat's call: it may be run, and comes to what the seat knows then.
use Rattle.std.specs.Prelude.{Option}
use Rattle.std.proofs.Common.{ℕ, Bool, refl, ◌∙◌}
use Rattle.seize.specs.declared.advance.Advance.{Advance}
use Rattle.seize.specs.declared.advance.Advance.TheVariants as progress
use Rattle.map_tables.specs.declared.resize_mode.ResizeMode.{ResizeMode}
use Rattle.map_machines.specs.Lookup.{lookup_plan, looking}
use Rattle.map_machines.specs.declared.lookup.Lookup.{Lookup}
use Rattle.map_machines.specs.declared.lookup.Looking.{Looking}
use Rattle.threads_rule.specs.Given.ActsActs.{Get}
use Rattle.threads_rule.specs.declared.view.View.{View}
use Rattle.map_straight.specs.Straight.Going.{LookGoes, LookLeads, LookReaches, MayLook}
use Rattle.map_straight.specs.Straight.Looking.{looks, sight_at}
use Rattle.map_straight.specs.declared.looking.Sight.{Sight}
use Rattle.map_straight.specs.declared.looking.Sight.TheVariants as sight
use Rattle.seize_straight.specs.Runs.{none_taken, one_more}
use Rattle.seize_straight.proofs.Running.{by_law}
use Rattle.threads_rule.specs.Errands.Looking.{Begins, HasCome, HasFound, HasLooked, HasSeen, HasProgressed, IsOfThem, LookedSo, LooksFor, StaysThere, found_of, progress_of_lookup}
use Rattle.threads_steps.specs.Made.{CanMake, HasMade, IsSameSeat, shown_of}
use Rattle.threads_steps.specs.declared.within.Within.{Within}
use Rattle.threads_rule.proofs.Errands.Beginnings.{stays_begun, stays_on}
use Rattle.threads_steps.proofs.Lookups.{may_look, has_looked}
use Rattle.threads_rule.proofs.Errands.Runs.{has_run, of_them, told_last}

module _ {K V S : Type 0} (same : K → K → Bool) (hash : S → K → ℕ) (key : K) where
  -- its call is at this lookup
  abbrev IsAt : Lookup → Within K V S → Type 0
  IsAt lookup c = LooksFor key lookup c.seat.now.view

  goes_on : (told : Advance (Option ℕ)) (d : Lookup) (v : View K V S) → LookGoes told → LookedSo same key d told v → LooksFor key d v
  goes_on progress.Goes d v so is = is
  goes_on progress.Waits d v so is = absurd is
  goes_on (progress.Done found) d v so is = absurd so
  goes_on (progress.Refused fault) d v so is = absurd so

  -- it may be run
  pub may_run : (lookup : Lookup) (c : Within K V S) → IsAt lookup c → MayLook (same key) (HasMade same hash) shown_of (CanMake same hash) lookup c
  may_run =
      by_law LookGoes (HasMade same hash) shown_of (lookup_plan (same key)) (CanMake same hash) IsAt (λ d m is. may_look same hash m key d is)
      (λ d m is n e told so st. goes_on told e n.seat.now.view so (has_looked same hash m key d is n (e, told) st).0)

  -- of the seat and its calls nothing has changed but what its lookup has seen
  pub record HasStayed (m n : Within K V S) : Type 0 where
    pub stays : StaysThere m.seat.now.view n.seat.now.view
    pub seat : IsSameSeat m n
    pub calls : IsOfThem m.seat.now.view n.seat.now.view

  led : (d e : Lookup) (m n : Within K V S) → LookLeads (same key) (HasMade same hash) shown_of d m e n → IsAt d m → IsAt e n × HasStayed m n
  led d e m n (none_taken _ _) is = (is, record { stays = record { slot = refl; map = refl }; seat = refl; calls = λ told. refl })
  led d e m n (one_more _ _ y k l told so _ _ st) is =
      let a = led d y m k l is in let b = has_looked same hash k key y a.0 n (e, told) st in (
        goes_on told e n.seat.now.view so b.0,
        record {
          stays = stays_on m.seat.now.view k.seat.now.view n.seat.now.view a.1.stays b.1;
          seat = b.2 ∙ a.1.seat;
          calls = of_them m.seat.now.view k.seat.now.view n.seat.now.view (progress_of_lookup told) a.1.calls b.3;
        },
      )

  -- what it has come to
  pub has_come : (root : ℕ) (mode : ResizeMode) (hashed : ℕ) (sight : Sight) (m n : Within K V S)
      → LookReaches (same key) (HasMade same hash) shown_of (looking root mode hashed) m n (sight_at root mode hashed sight) → IsAt (looking root mode hashed) m
      → HasCome same key root mode hashed sight m.seat.now.view n.seat.now.view × StaysThere m.seat.now.view n.seat.now.view × IsSameSeat m n
  has_come root mode hashed (sight.Ends found) m n (y, k, z, l, st, not) is =
      let a = led (looking root mode hashed) y m k l is in let b = has_looked same hash k key y a.0 n (z, progress.Done found) st in (
        (b.0, told_last m.seat.now.view k.seat.now.view n.seat.now.view (found_of found) a.1.calls b.3),
        stays_on m.seat.now.view k.seat.now.view n.seat.now.view a.1.stays b.1,
        b.2 ∙ a.1.seat,
      )
  has_come root mode hashed (sight.Stands stands) m n l is =
      let a = led (looking root mode hashed) (looks root mode hashed stands) m n l is in ((a.0, a.1.calls), a.1.stays, a.1.seat)

  -- and so since its call has begun
  pub seen_since : (root : ℕ) (mode : ResizeMode) (hashed : ℕ) (sight : Sight) (u v w : View K V S) → Begins same hash (Get key) u v
      → HasCome same key root mode hashed sight v w → StaysThere v w → HasSeen same hash key root mode hashed sight u w
  seen_since root mode hashed (sight.Ends found) u v w begins come stays = record {
    looked = come.0;
    stays = stays_on u v w (stays_begun same hash (Get key) u v begins) stays;
    ran = has_run same hash (Get key) (found_of found) u v w begins come.1;
  }
  seen_since root mode hashed (sight.Stands stands) u v w begins come stays =
      (come.0, stays_on u v w (stays_begun same hash (Get key) u v begins) stays, v, begins, come.1)

  -- or by the steps that are taken then
  pub found_then : (root : ℕ) (mode : ResizeMode) (hashed : ℕ) (stands : Looking) (found : Option ℕ) (u v w : View K V S) → HasSeen same hash key root mode hashed (sight.Stands stands) u v
      → HasLooked same key found w → HasProgressed (found_of found) v w → StaysThere v w → HasFound same hash key found u w
  found_then root mode hashed stands found u v w seen looked told stays = record {
    looked = looked;
    stays = stays_on u v w seen.1 stays;
    ran = has_run same hash (Get key) (found_of found) u seen.2 w seen.3 (told_last seen.2 v w (found_of found) seen.4 told);
  }
