-- Guards are those of open sections still, where sections go on, where one begins, and where one ends.
use Rattle.std.specs.Prelude.{◌≢◌, ◌⊎◌, cond, not, filter, find, Option, Some, None}
use Rattle.std.specs.Option.{option_or}
use Rattle.std.proofs.Common.{◌≡◌, ℕ, Bool, true, List, [], ◌∷◌, ◌++◌, inl, inr, refl, ap, sym, subst, ◌∙◌}
use Rattle.std.proofs.lemmas.List.Folds.{find-append}
use Rattle.many_acts.proofs.Given.FollowsCalling.{is_same_is, is_same_refl}
use Rattle.seize.specs.World.{IsInside, Use}
use Rattle.many_acts.specs.Given.ScenesDeclared.row.SlotRow.{SlotRow}
use Rattle.run_schedules.specs.Runs.Present.{guard_of}
use Rattle.run_schedules.specs.Runs.Same.{is_same}
use Rattle.run_schedules.specs.declared.holders.NamedGuard.{NamedGuard}
use Rattle.run_schedules.specs.Deeds.Deeds.{named}
use Rattle.play_lists.proofs.Played.Noted.{apart}
use Rattle.play_lists.specs.Agrees.Guards.{GuardsAre, IsOpen, guard_on}
use Rattle.play_lists.proofs.Agrees.Lists.{all_kept, all_more, all_of, found_kept, found_so}

-- one name is one number
pub one_number : (s t : ℕ) → named s ≡ named t → s ≡ t
one_number s t e = cc e

module _ (rows rows2 : ℕ → Option SlotRow) (uses uses2 : ℕ → Use) (guards : List NamedGuard) (here : GuardsAre rows uses guards) where
  abbrev Was : NamedGuard → Type 0
  Was g = (g ≡ guard_on g.slot) × IsOpen rows uses g.slot

  abbrev Is : NamedGuard → Type 0
  Is g = (g ≡ guard_on g.slot) × IsOpen rows2 uses2 g.slot

  pub same_guards : ((s : ℕ) → IsOpen rows uses s → IsOpen rows2 uses2 s) → ((s : ℕ) → IsInside (uses2 s) → IsInside (uses s)) → GuardsAre rows2 uses2 guards
  same_guards on back = record { each = all_of Was Is guards (λ g was. (was.0, on g.slot was.1)) here.each; inside = λ s in_it. here.inside s (back s in_it) }

  module _ (t : ℕ) where
    abbrev test : ℕ → NamedGuard → Bool
    test s g = is_same g.name (named s)

    itself : find (test t) (guard_on t ∷ []) ≡ Some (guard_on t)
    itself = ap (λ (q : Bool). cond q (Some (guard_on t)) None) (is_same_refl (named t))

    -- a guard of this name is the one of the slot
    found_is : (g : NamedGuard) → guard_of (named t) guards ≡ Some g → g ≡ guard_on t
    found_is g found =
        let so = found_so Was (test t) guards g here.each found in
        let slots : g.slot ≡ t = one_number g.slot t (ap (λ (x : NamedGuard). x.name) (sym so.0.0) ∙ is_same_is g.name (named t) so.1) in so.0.0 ∙ ap guard_on slots

    -- its section begins
    pub opened : ((s : ℕ) → IsOpen rows uses s → IsOpen rows2 uses2 s) → ((s : ℕ) → IsInside (uses2 s) → IsInside (uses s) ⊎ (s ≡ t)) → IsInside (uses2 t)
        → GuardsAre rows2 uses2 (guards ++ guard_on t ∷ [])
    opened on back in_it = record {
      each = all_more Is guards (guard_on t) (all_of Was Is guards (λ g was. (was.0, on g.slot was.1)) here.each) (refl, inl in_it);
      inside = λ s in_s. found s (back s in_s);
    }
      where
        at : (o : Option NamedGuard) → guard_of (named t) guards ≡ o → option_or o (find (test t) (guard_on t ∷ [])) ≡ Some (guard_on t)
        at None e = itself
        at (Some g) e = ap Some (found_is g e)

        found : (s : ℕ) → IsInside (uses s) ⊎ (s ≡ t) → guard_of (named s) (guards ++ guard_on t ∷ []) ≡ Some (guard_on s)
        found s (inl was) =
            find-append (test s) guards (guard_on t ∷ []) ∙ ap (λ (o : Option NamedGuard). option_or o (find (test s) (guard_on t ∷ []))) (here.inside s was)
        found s (inr is) =
            subst (λ (k : ℕ). guard_of (named k) (guards ++ guard_on t ∷ []) ≡ Some (guard_on k)) (sym is)
            (find-append (test t) guards (guard_on t ∷ []) ∙ at (guard_of (named t) guards) refl)

    -- or ends
    pub shut : ((s : ℕ) → s ≢ t → IsOpen rows uses s → IsOpen rows2 uses2 s) → ((s : ℕ) → IsInside (uses2 s) → IsInside (uses s) × (s ≢ t))
        → GuardsAre rows2 uses2 (filter (λ g. not (is_same g.name (named t))) guards)
    shut on back = record {
      each = all_kept Was Is (λ g. not (test t g)) guards (λ g kept was. (was.0, on g.slot (λ at. other g was.0 at kept) was.1)) here.each;
      inside = λ s in_s. found_kept (test s) (λ g. not (test t g)) guards (guard_on s) (here.inside s (back s in_s).0) (ap not (apart s t (λ e. (back s in_s).1 (sym e))));
    }
      where
        other : (g : NamedGuard) → g ≡ guard_on g.slot → g.slot ≡ t → not (test t g) ≡ true → ⊥
        other g is at kept =
            let its : test t g ≡ true = ap (λ (x : NamedGuard). is_same x.name (named t)) is ∙ ap (λ (k : ℕ). is_same (named k) (named t)) at ∙ is_same_refl (named t) in
            cc (ap not its, kept)
