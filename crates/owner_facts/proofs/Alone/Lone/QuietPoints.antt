-- The points of a copier, in incremental mode, at which all tables up to the root are said to be promoted, and the root isn't counted whole.
use Rattle.std.specs.Prelude.{◌==◌, nat_lt, if◌then◌else◌}
use Rattle.std.proofs.Common.{◌≡◌, ◌+◌, ◌-◌, Bool, true, false, refl, sym, subst}
use Rattle.many_maps.specs.Given.TablesChunks.{is_incremental}
use Rattle.many_maps.specs.Given.ResizeCopierStates.{standing, behind, none_left, next_place}
use Rattle.many_maps.specs.Given.ResizeDeclared.copier.Copier.{Copier}
use Rattle.many_maps.specs.Given.ResizeDeclared.copier.Copying.{Copying as Point}
use Rattle.many_maps.specs.Given.ResizeDeclared.copier.Copying.TheVariants as at
use Rattle.many_maps.specs.Given.RuleChart.{Chart}
use Rattle.owner_facts.specs.Alone.FactsAlone.{AllAnnounced, IsUncounted, AloneAt}

abbrev pub IsQuiet : Point → Type 0
IsQuiet at.Promotes = ⊥
IsQuiet at.Announces = ⊥
IsQuiet _ = Unit {0}

-- where a step that counts, or promotes, leads is told elsewhere
abbrev pub GoesTo : Point → Point → Type 0
GoesTo at.Counts next = Unit {0}
GoesTo at.Promotes next = Unit {0}
GoesTo _ next = IsQuiet next

pub quiet_behind : (p : Copier) → IsQuiet (behind p).stands
quiet_behind p = by p.whole
  where
    by : (b : Bool) → IsQuiet (if b then record p { place = 0; end = 0; spent = is_incremental p.setting.mode; stands = at.Asks } else standing p at.Over).stands
    by true = tt
    by false = tt

pub quiet_none_left : (p : Copier) → IsQuiet (none_left p).stands
quiet_none_left p = by p.whole
  where
    by : (b : Bool) → IsQuiet (if b then record p { spent = true; stands = at.Asks } else standing p at.Over).stands
    by true = tt
    by false = tt

pub quiet_next : (p : Copier) → IsQuiet (next_place p).stands
quiet_next p = by (nat_lt p.place (p.end - 1)) (p.done == 0)
  where
    ends : (b : Bool) → IsQuiet (if b then behind p else standing p at.Counts).stands
    ends true = quiet_behind p
    ends false = tt

    by : (a b : Bool) → IsQuiet (if a then record p { place = p.place + 1; stands = at.Marks } else (if b then behind p else standing p at.Counts)).stands
    by true b = tt
    by false b = ends b

module _ {K : Type 0} (c : Chart K) (p : Copier) where
  quiet_point : (stands : Point) → IsQuiet stands → AloneAt c p stands ≡ (AllAnnounced c × IsUncounted c)
  quiet_point at.Begins quiet = refl
  quiet_point at.Follows quiet = refl
  quiet_point at.Asks quiet = refl
  quiet_point at.Sees quiet = refl
  quiet_point at.Claims quiet = refl
  quiet_point at.Marks quiet = refl
  quiet_point (at.Probes word code table probe) quiet = refl
  quiet_point (at.Puts word code table probe) quiet = refl
  quiet_point (at.Covers word) quiet = refl
  quiet_point (at.Passes word code table) quiet = refl
  quiet_point (at.Grows word code making) quiet = refl
  quiet_point at.Aborts quiet = refl
  quiet_point at.Replaces quiet = refl
  quiet_point (at.Remakes making) quiet = refl
  quiet_point at.Counts quiet = refl
  quiet_point (at.Tallies word fault) quiet = refl
  quiet_point (at.Unmarks word fault) quiet = refl
  quiet_point (at.Unclaims fault) quiet = refl
  quiet_point at.Promotes quiet = absurd quiet
  quiet_point at.Announces quiet = absurd quiet
  quiet_point (at.Succeeds table) quiet = refl
  quiet_point (at.Retires settle rest) quiet = refl
  quiet_point at.Over quiet = refl
  quiet_point (at.Refused fault) quiet = refl

  pub alone_quiet : (stands : Point) → IsQuiet stands → AllAnnounced c × IsUncounted c → AloneAt c p stands
  alone_quiet stands quiet alone = subst (λ (X : Type 0). X) (sym (quiet_point stands quiet)) alone

  pub quiet_alone : (stands : Point) → IsQuiet stands → AloneAt c p stands → AllAnnounced c × IsUncounted c
  quiet_alone stands quiet alone = subst (λ (X : Type 0). X) (quiet_point stands quiet) alone
