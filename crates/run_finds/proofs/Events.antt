-- Pairs are in their places still where an event begins something, and once it is over.
use Rattle.std.specs.Prelude.{◌≡◌, ℕ, ◌+◌, ◌==◌, nat_le, Bool, true, false, not, cond, ◌&&◌, ◌||◌, List, [], ◌∷◌, ◌++◌, map, Option, Some, None, if◌then◌else◌}
use Rattle.std.specs.List.{AllByRecursion, list_any}
use Rattle.std.proofs.Common.{refl, ap, sym, subst, ◌∙◌, arith}
use Rattle.std.proofs.lemmas.Bool.{or_left, or_right}
use Rattle.std.proofs.lemmas.List.Folds.{list_any-append}
use Rattle.run_executor.specs.Given.RunsSame.{is_same}
use Rattle.run_executor.specs.Given.RunsDeclared.call.Reply.{Reply}
use Rattle.run_executor.specs.Given.RunsDeclared.event.Event.{Event}
use Rattle.run_executor.specs.Given.RunsDeclared.event.Event.TheVariants.{Replied, Stop}
use Rattle.run_executor.specs.Given.RunsDeclared.outcome.Outcome.{Outcome}
use Rattle.run_executor.specs.Given.RunsDeclared.outcome.Outcome.TheVariants.{Done, Goes, Asks, Waits, Ready, Shows}
use Rattle.run_executor.specs.Given.RunsDeclared.effect.TableId.{TableId}
use Rattle.run_executor.specs.Given.RunsDeclared.effect.Thing.TheVariants.{ATable}
use Rattle.run_executor.specs.Given.SchedulesAfter.{asks_on, with_outcome, replied, without_call, stepped, calls_on, after}
use Rattle.run_executor.specs.Given.SchedulesBeginning.{with_call, with_map}
use Rattle.run_executor.specs.Given.SchedulesEffects.{worked}
use Rattle.run_executor.specs.Given.SchedulesEntry.{ends_call, caller_of}
use Rattle.run_executor.specs.Given.SchedulesLists.{is_in}
use Rattle.run_executor.specs.Given.SchedulesMoment.{CallState, Going, Asking, Told, IsReady, UnderWay, MapThere, TableThere}
use Rattle.run_executor.specs.Given.SchedulesReclaims.{is_kept}
use Rattle.run_executor.specs.Given.SchedulesThings.{same_thing}
use Rattle.run_executor.specs.Given.SchedulesViews.{is_linked}
use Rattle.run_executor.proofs.Given.FollowsCalls.{IsOfSame}
use Rattle.run_finds.specs.Events.{ended_by, EndedHasNoObligation, BeginningsPreservePlaced, EventsPreservePlaced, BeginningsPreserveTables, EventsPreserveTables}
use Rattle.run_finds.specs.Waiting.{owed_in, owed_by, AreApart}
use Rattle.run_finds.proofs.Owed.{apart_still, all_owe, ended_owe_nothing}
use Rattle.run_finds.proofs.Owed.Tables.{owed_still}
use Rattle.run_finds.proofs.Placed.{others_keep_placed}
use Rattle.run_finds.proofs.Tables.{each_same, others_keep_tables}

pub beginnings_keep_placed : (K V : Type 0) → BeginningsPreservePlaced K V
beginnings_keep_placed K V m h = (
  (λ own guard call map none. record { owed = λ n. (let same = h.owed n in omega (arith, same)); put = h.put; back = h.back; stored = h.stored; apart = (none, h.apart) }),
  (λ f. record { owed = h.owed; put = h.put; back = h.back; stored = h.stored; apart = h.apart }),
)

module _ {K V : Type 0} where
  -- the same call of the same caller, which owes what it owed, and has the table that it had
  abbrev pub OwesSame : UnderWay K V → UnderWay K V → Type 0
  OwesSame c d = IsOfSame c d × (d.owes ≡ c.owes) × (d.table ≡ c.table)

  asks_same : (question : Option ℕ) (c : UnderWay K V) (stands : CallState) → OwesSame c (asks_on question c stands)
  asks_same question c (Asking q) = ((refl, refl, refl), refl, refl)
  asks_same question c Going = ((refl, refl, refl), refl, refl)
  asks_same question c Told = ((refl, refl, refl), refl, refl)
  asks_same question c IsReady = ((refl, refl, refl), refl, refl)

  pub comes_same : (outcome : Outcome V) (c : UnderWay K V) → OwesSame c (with_outcome outcome c)
  comes_same (Asks question) c = asks_same question c c.stands
  comes_same Goes c = ((refl, refl, refl), refl, refl)
  comes_same Waits c = ((refl, refl, refl), refl, refl)
  comes_same Ready c = ((refl, refl, refl), refl, refl)
  comes_same (Shows k) c = ((refl, refl, refl), refl, refl)
  comes_same _ c = ((refl, refl, refl), refl, refl)

  pub told_same : (reply : Reply V) (c : UnderWay K V) (stands : CallState) → OwesSame c (replied reply c stands)
  told_same reply c (Asking q) = ((refl, refl, refl), refl, refl)
  told_same reply c Going = ((refl, refl, refl), refl, refl)
  told_same reply c Told = ((refl, refl, refl), refl, refl)
  told_same reply c IsReady = ((refl, refl, refl), refl, refl)

  -- what is owed is the same, and callers are apart still
  abbrev IsSame : List (UnderWay K V) → List (UnderWay K V) → Type 0
  IsSame before after = ((n : ℕ) → owed_by n after ≡ owed_by n before) × AreApart after

  module _ (calls : List (UnderWay K V)) (apart : AreApart calls) where
    changed_so : (own : List ℕ) (change : UnderWay K V → UnderWay K V) (same : (c : UnderWay K V) → OwesSame c (change c)) → IsSame calls (map (λ c. if is_same c.caller own then change c else c) calls)
    changed_so own change same = (
      (λ n. all_owe own change (λ c. (same c).0) n (λ c. ap (owed_in n) (same c).1) calls),
      apart_still own change (λ c. (same c).0) calls apart,
    )

    stepped_so : (caller : Option (List ℕ)) (outcome : Outcome V) (steps : ℕ) → EndedHasNoObligation (if ends_call outcome then caller else None) calls → IsSame calls (stepped caller outcome steps calls)
    stepped_so None outcome steps owes = ((λ n. refl), apart)
    stepped_so (Some own) outcome steps owes = by (ends_call outcome) owes
      where
        change : UnderWay K V → UnderWay K V
        change c = with_outcome outcome (record c { steps = c.steps + steps })

        by : (q : Bool) → EndedHasNoObligation (if q then Some own else None) calls → IsSame calls (if q then without_call own calls else map (λ c. if is_same c.caller own then change c else c) calls)
        by true none = ended_owe_nothing K V own calls apart none
        by false none = changed_so own change (λ c. comes_same outcome (record c { steps = c.steps + steps }))

    over_so : (event : Event K V) (outcome : Outcome V) (steps : ℕ) → EndedHasNoObligation (ended_by event outcome) calls → IsSame calls (calls_on event outcome steps calls)
    over_so (Replied caller reply) Goes steps owes = changed_so caller (λ c. replied reply c c.stands) (λ c. told_same reply c c.stands)
    over_so (Stop caller) Done steps owes = ended_owe_nothing K V caller calls apart owes
    over_so event outcome steps owes = stepped_so (caller_of event) outcome steps owes

  -- a table that is owed is owed still
  module _ (t : TableId) where
    abbrev owes_it : UnderWay K V → Bool
    owes_it c = is_in same_thing (ATable t) c.owes

    others_owe_it : (own : List ℕ) (calls : List (UnderWay K V)) → AllByRecursion (λ c. is_same c.caller own ≡ true → c.owes ≡ []) calls → list_any owes_it calls ≡ true → list_any owes_it (without_call own calls) ≡ true
    others_owe_it own [] none e = e
    others_owe_it own (c ∷ calls) none e = by (is_same c.caller own) refl (owes_it c) refl e (others_owe_it own calls none.1)
      where
        Goal : Bool → Type 0
        Goal q = list_any owes_it (cond (not q) (c ∷ without_call own calls) (without_call own calls)) ≡ true

        by : (q : Bool) → is_same c.caller own ≡ q → (b : Bool) → owes_it c ≡ b → (b || list_any owes_it calls) ≡ true
            → (list_any owes_it calls ≡ true → list_any owes_it (without_call own calls) ≡ true) → Goal (is_same c.caller own)
        by true is true it any rest = absurd (let nothing : owes_it c ≡ false = ap (is_in same_thing (ATable t)) (none.0 is) in cc (it, nothing))
        by true is false it any rest = subst Goal (sym is) (rest any)
        by false is true it any rest = subst Goal (sym is) (or_left (owes_it c) (list_any owes_it (without_call own calls)) it)
        by false is false it any rest = subst Goal (sym is) (or_right (owes_it c) (list_any owes_it (without_call own calls)) (rest any))

    module _ (calls : List (UnderWay K V)) (any : list_any owes_it calls ≡ true) where
      changed_owe : (own : List ℕ) (change : UnderWay K V → UnderWay K V) (same : (c : UnderWay K V) → OwesSame c (change c)) → list_any owes_it (map (λ c. if is_same c.caller own then change c else c) calls) ≡ true
      changed_owe own change same = owed_still own change (λ c. (same c).0) t (λ c e. ap (is_in same_thing (ATable t)) (same c).1 ∙ e) calls any

      stepped_owe : (caller : Option (List ℕ)) (outcome : Outcome V) (steps : ℕ) → EndedHasNoObligation (if ends_call outcome then caller else None) calls → list_any owes_it (stepped caller outcome steps calls) ≡ true
      stepped_owe None outcome steps owes = any
      stepped_owe (Some own) outcome steps owes = by (ends_call outcome) owes
        where
          change : UnderWay K V → UnderWay K V
          change c = with_outcome outcome (record c { steps = c.steps + steps })

          by : (q : Bool) → EndedHasNoObligation (if q then Some own else None) calls → list_any owes_it (if q then without_call own calls else map (λ c. if is_same c.caller own then change c else c) calls) ≡ true
          by true none = others_owe_it own calls none any
          by false none = changed_owe own change (λ c. comes_same outcome (record c { steps = c.steps + steps }))

      over_owe : (event : Event K V) (outcome : Outcome V) (steps : ℕ) → EndedHasNoObligation (ended_by event outcome) calls → list_any owes_it (calls_on event outcome steps calls) ≡ true
      over_owe (Replied caller reply) Goes steps owes = changed_owe caller (λ c. replied reply c c.stands) (λ c. told_same reply c c.stands)
      over_owe (Stop caller) Done steps owes = others_owe_it caller calls owes any
      over_owe event outcome steps owes = stepped_owe (caller_of event) outcome steps owes

pub beginnings_keep_tables : (K V : Type 0) → BeginningsPreserveTables K V
beginnings_keep_tables K V m h = (
  (λ own guard call map. others_keep_tables K V m (with_call own guard call (Some map) m) h refl refl (each_same (λ u. is_kept m u ≡ true → is_kept m u ≡ true) (λ u e. e) m.tables) (λ t e. e)),
  (λ f. others_keep_tables K V m (with_map f m) h refl refl (each_same (λ u. is_kept m u ≡ true → is_kept (with_map f m) u ≡ true) (more f) m.tables) (λ t e. e)),
)
  where
    rooted : TableThere → MapThere → Bool
    rooted u g = (g.number == u.table.map) && nat_le g.first u.table.turn

    more : (f : MapThere) (u : TableThere) → is_kept m u ≡ true → is_kept (with_map f m) u ≡ true
    more f u e = by (not (is_linked u.stage)) e
      where
        by : (q : Bool) → (q || list_any (rooted u) m.maps) ≡ true → (q || list_any (rooted u) (m.maps ++ f ∷ [])) ≡ true
        by true e = refl
        by false e = list_any-append (rooted u) m.maps (f ∷ []) ∙ or_left (list_any (rooted u) m.maps) (list_any (rooted u) (f ∷ [])) e

pub events_keep_tables : (K V : Type 0) → EventsPreserveTables K V
events_keep_tables K V e m h kept owes =
    others_keep_tables K V (worked e m) (after e m) h refl refl kept (λ t any. over_owe t (worked e m).calls any e.event e.outcome e.steps owes)

pub events_keep_placed : (K V : Type 0) → EventsPreservePlaced K V
events_keep_placed K V e m h owes =
    let same = over_so (worked e m).calls h.apart e.event e.outcome e.steps owes in
    others_keep_placed K V (worked e m) (after e m) h (λ n. refl) refl refl refl same.0 same.1
