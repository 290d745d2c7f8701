-- Some turns, and then others.
use Rattle.std.specs.Prelude.{Option}
use Rattle.std.proofs.Common.{◌≡◌, ℕ, List, [], ◌∷◌, ◌++◌, refl, sym, ap, subst, ◌∙◌, append_assoc}
use Rattle.seize.specs.Sequence.{Turn, Whole, Between, TakesTurns, changes, ended_by}
use Rattle.seize.specs.WaitingSets.{Change, Sets, After, then_also, changed, all_changed}
use Rattle.seize.specs.World.{World}

pub turns_append : {T : Type 0} (defers : T → Option ℕ) (size : ℕ) (turns more : List (Turn T)) (w v n : World T) (all further : List Change) → TakesTurns defers size turns w v all
    → TakesTurns defers size more v n further → TakesTurns defers size (turns ++ more) w n (all ++ further)
turns_append defers size [] more w v n all further h k =
    subst (λ (a : List Change). TakesTurns defers size more w n (a ++ further)) (sym h.1)
    (subst (λ (u : World _). TakesTurns defers size more u n further) h.0 k)
turns_append defers size (Whole i request ∷ turns) more w v n all further h k = (
  h.0,
  h.1 ++ further,
  h.2,
  turns_append defers size turns more h.0 v n h.1 further h.3 k,
  ap (λ (a : List Change). a ++ further) h.4 ∙ append_assoc (changes request w.uses h.0.uses) h.1 further,
)
turns_append defers size (Between event ∷ turns) more w v n all further h k = (
  h.0,
  h.1 ++ further,
  h.2,
  h.3,
  turns_append defers size turns more h.0 v n h.1 further h.4 k,
  ap (λ (a : List Change). a ++ further) h.5 ∙ append_assoc (ended_by event) h.1 further,
)

after_of : Sets → List ℕ → After
after_of s l = record { sets = s; reclaimed = l }

-- and what they come to
pub changed_append : (size : ℕ) (a b : List Change) (sets : Sets) → all_changed size (a ++ b) sets ≡ then_also (all_changed size a sets) (all_changed size b)
unfolding after_of
changed_append size [] b sets = refl
changed_append size (c ∷ a) b sets =
    let v = (changed size c sets).sets in
    let first = all_changed size a v in
    let second = all_changed size b first.sets in
    ap (λ (x : After). after_of x.sets ((changed size c sets).reclaimed ++ x.reclaimed)) (changed_append size a b v)
    ∙ ap (after_of second.sets) (sym (append_assoc (changed size c sets).reclaimed first.reclaimed second.reclaimed))
