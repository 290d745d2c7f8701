-- A step of a row that is not to take a block away takes none.
use Rattle.std.specs.Prelude.{◌≡◌, ℕ, zero, suc, ◌==◌, Bool, true, false, [], ◌∷◌, Option, None, IsSome, if◌then◌else◌}
use Rattle.std.proofs.Common.{refl, ap, sym, subst, ◌∙◌, arith, inl, inr}
use Rattle.run_shows.specs.Given.SeizeWordsMem.{Mem, value_at}
use Rattle.run_shows.specs.Given.SeizeDeclared.advance.Advance.{Advance}
use Rattle.run_shows.specs.Given.SeizeDeclared.advance.Advance.TheVariants as progress
use Rattle.run_shows.specs.Given.SeizeDeclared.rows.leave.Leave.{Leave}
use Rattle.run_shows.specs.Given.SeizeDeclared.rows.leave.Leaving.{Leaving}
use Rattle.run_shows.specs.Given.SeizeDeclared.rows.leave.Leaving.TheVariants as leaving
use Rattle.run_shows.specs.Given.SeizeDeclared.rows.register.Register.{Register}
use Rattle.run_shows.specs.Given.SeizeDeclared.rows.register.Registering.{Registering}
use Rattle.run_shows.specs.Given.SeizeDeclared.rows.register.Registering.TheVariants as registering
use Rattle.run_shows.specs.Given.SeizeDeclared.rows.settle.Settle.{Settle}
use Rattle.run_shows.specs.Given.SeizeDeclared.rows.settle.Settled.{Settled}
use Rattle.run_shows.specs.Given.SeizeDeclared.rows.settle.Settled.TheVariants as settled
use Rattle.run_shows.specs.Given.SeizeDeclared.rows.settle.Settling.{Settling}
use Rattle.run_shows.specs.Given.SeizeDeclared.rows.settle.Settling.TheVariants as at
use Rattle.run_shows.specs.Given.SeizeDeclared.rows.defer.Defer.{Defer}
use Rattle.run_shows.specs.Given.SeizeDeclared.states.TheConstants.{ACTIVE}
use Rattle.run_shows.specs.Given.SeizeLaw.{Entered}
use Rattle.run_shows.specs.Given.SeizeSequence.{taken_in}
use Rattle.run_shows.specs.Given.SeizeWorld.{World, Hand, Row, Rests, Registers, Enters, Settles, Leaves, Defers, Frees, Request, Register', Enter', Leave', LeaveOwned, Refresh, Unregister', Retire, Flush, Defer', Begin, Happens, Steps', times, handed_by, settle_effects, leave_effects, register_effects, settles_on, registers_on, defers_on}
use Rattle.run_shows.proofs.Given.SeizeAloneHistories.NotTaken.{did, nobodys}
use Rattle.run_shows.proofs.Given.SeizeAloneHistories.Reached.{Reached}
use Rattle.run_shows.proofs.Given.SeizeAloneSpared.Rows.{RowStepped}
use Rattle.run_shows.proofs.Given.SeizeRuleRows.Effects.{taken_hand}
use Rattle.run_shows.specs.Given.TablesNodes.{deferred_word}
use Rattle.run_shows.specs.Given.TablesDeclared.node.Node.{Node}
use Rattle.run_shows.specs.Given.TablesDeclared.setting.Setting.{Setting}
use Rattle.run_shows.proofs.Given.RuleWorld.Hands.{at_cases}
use Rattle.run_shows.specs.Given.EffectsDeclared.changed.Changed.{Changed}
use Rattle.run_shows.specs.Given.EffectsDeclared.changed.Changed.TheVariants as changed
use Rattle.run_shows.specs.Given.CallersTogether.{CameAbout, HandsOver, IsOneStep}
use Rattle.run_shows.proofs.Given.CallersTogether.Came.{came_reached, came_next}
use Rattle.run_shows.specs.Follows.Steps.{TakesNone}
use Rattle.run_shows.proofs.Follows.Operations.{LeavesBy}
use Rattle.run_shows.proofs.Others.RowGives.{IsTakes as IsAtTaking}

abbrev pub LeavesTaking : Leaving → Type 0
LeavesTaking (leaving.Settles settle) = IsAtTaking settle.stands
LeavesTaking _ = ⊥

abbrev pub IsToTake : Row → Type 0
IsToTake (Settles c) = IsAtTaking c.stands
IsToTake (Leaves c) = LeavesTaking c.stands
IsToTake _ = ⊥

-- the hands are as they were, whatever else such a step does

settle_hands : (c : Settle) (p : Settling) → (IsAtTaking p → ⊥) → (hand : ℕ → Hand) → handed_by (settle_effects c p) hand ≡ hand
settle_hands c at.Sees never hand = refl
settle_hands c at.Holds never hand = refl
settle_hands c at.Pops never hand = refl
settle_hands c (at.Firsts block) never hand = refl
settle_hands c (at.Batches block) never hand = refl
settle_hands c (at.Ends block) never hand = refl
settle_hands c (at.Appends block) never hand = refl
settle_hands c (at.Counts block) never hand = refl
settle_hands c (at.Scans slot block marks) never hand = refl
settle_hands c (at.Marks slot block marks) never hand = refl
settle_hands c (at.Marked slot block marks) never hand = refl
settle_hands c (at.Closes marks) never hand = refl
settle_hands c (at.Reads block left pushed) never hand = refl
settle_hands c (at.Links block left pushed slot head) never hand = refl
settle_hands c (at.Pushes block left pushed slot head) never hand = refl
settle_hands c (at.Pushed block left pushed) never hand = refl
settle_hands c (at.Sums pushed) never hand = refl
settle_hands c at.Nexts never hand = refl
settle_hands c (at.Drains next word) never hand = refl
settle_hands c (at.Joins next more) never hand = refl
settle_hands c (at.Tails next) never hand = refl
settle_hands c (at.Takes next) never hand = absurd (never tt)
settle_hands c at.Puts never hand = refl
settle_hands c at.Lists never hand = refl
settle_hands c (at.Owns next) never hand = refl
settle_hands c (at.Downs next batch) never hand = refl
settle_hands c at.Gives never hand = refl
settle_hands c at.Over never hand = refl

leave_hands : (c : Leave) (p : Leaving) → (LeavesTaking p → ⊥) → (hand : ℕ → Hand) → handed_by (leave_effects c p) hand ≡ hand
leave_hands c leaving.Swaps never hand = refl
leave_hands c (leaving.Settles settle) never hand = settle_hands settle settle.stands never hand
leave_hands c leaving.Frees never hand = refl
leave_hands c leaving.Over never hand = by (c.becomes == ACTIVE)
  where
    by : (q : Bool) → handed_by (if q then Entered c.slot ∷ [] else []) hand ≡ hand
    by true = refl
    by false = refl

register_hands : (c : Register) (p : Registering) → (hand : ℕ → Hand) → handed_by (register_effects c p) hand ≡ hand
register_hands c registering.Begin hand = refl
register_hands c registering.Look hand = refl
register_hands c (registering.Widen bucket seen) hand = refl
register_hands c (registering.Take seen) hand = refl
register_hands c registering.Enter hand = refl
register_hands c registering.Registered hand = refl
register_hands c (registering.Refused fault) hand = refl

module _ {K V : Type 0} (i : ℕ) (w w2 : World (Node K V)) where
  step_hands : (row : Row) → (IsToTake row → ⊥) → Steps' deferred_word i row w w2 → w2.hand ≡ w.hand
  step_hands Rests never step = absurd step
  step_hands (Registers c) never step = ap (λ (v : World (Node K V)). v.hand) step.3 ∙ by step.0 step.1.0 step.1.1
    where
      by : (mem : Mem (Node K V)) (d : Register) (p : Advance ℕ) → (registers_on w i c mem (d, p)).hand ≡ w.hand
      by mem d progress.Goes = register_hands c c.stands w.hand
      by mem d progress.Waits = register_hands c c.stands w.hand
      by mem d (progress.Done s) = register_hands c c.stands w.hand
      by mem d (progress.Refused fault) = refl
  step_hands (Enters c) never step = ap (λ (v : World (Node K V)). v.hand) step.3
  step_hands (Settles c) never step = ap (λ (v : World (Node K V)). v.hand) step.3 ∙ by step.0 step.1.0 step.1.1
    where
      by : (mem : Mem (Node K V)) (d : Settle) (p : Settled (Node K V)) → (settles_on w i c mem (d, p)).hand ≡ w.hand
      by mem d settled.Goes = settle_hands c c.stands never w.hand
      by mem d settled.Waits = settle_hands c c.stands never w.hand
      by mem d (settled.Gave value) = settle_hands c c.stands never w.hand
      by mem d settled.Done = refl
  step_hands (Leaves c) never step = ap (λ (v : World (Node K V)). v.hand) step.3 ∙ leave_hands c c.stands never w.hand
  step_hands (Defers s c) never step = ap (λ (v : World (Node K V)). v.hand) step.3 ∙ by step.0 step.1.0 step.1.1
    where
      by : (mem : Mem (Node K V)) (d : Defer) (p : Advance Unit) → (defers_on w i s mem (d, p)).hand ≡ w.hand
      by mem d progress.Goes = refl
      by mem d progress.Waits = refl
      by mem d (progress.Done s) = refl
      by mem d (progress.Refused fault) = refl
  step_hands (Frees c) never step = ap (λ (v : World (Node K V)). v.hand) step.3

  -- a block that is there stays
  module _ (size : ℕ) (r : Reached deferred_word size w) (step : Steps' deferred_word i (w.row i) w w2) (never : IsToTake (w.row i) → ⊥) where
    row_keeps : (b : ℕ) → IsSome (value_at w.memory b) → value_at w2.memory b ≡ None → ⊥
    row_keeps b there gone = by (times b (taken_in it.effects)) refl
      where
        it : RowStepped deferred_word i w w2
        it = did deferred_word size w r i w2 step

        none : value_at w.memory b ≡ None → ⊥
        none e = absurd (cc (subst (λ (o : Option (Node K V)). IsSome o) e there))

        by : (n : ℕ) → times b (taken_in it.effects) ≡ n → ⊥
        by zero e = none (sym (it.frames.values b e) ∙ gone)
        by (suc n) e = none (nobodys deferred_word size w r b (ap (λ (h : ℕ → Hand). h b) (sym (step_hands (w.row i) never step) ∙ it.hands) ∙ taken_hand b it.effects w.hand it.one (λ z. omega (arith, e, z))))

module _ {K V : Type 0} (setting : Setting) (i : ℕ) where
  -- a row that hands a block over begins with the memory as it was, and is not to take one
  abbrev IsBegunSo : World (Node K V) → World (Node K V) → Type 0
  IsBegunSo w begun = (begun.memory ≡ w.memory) × (IsToTake (begun.row i) → ⊥)

  row_begun : (w begun : World (Node K V)) (request : Request) → HandsOver setting i w request → Happens deferred_word setting.batch_size (Begin i request) w begun → IsBegunSo w begun
  row_begun w begun (Retire s b) hands h =
      subst (IsBegunSo w) (sym h.1.2) (refl, at_cases (λ (row : Row). IsToTake row → ⊥) w.row i _ i (λ e never. never) (λ ne. absurd (ne refl)))
  row_begun w begun (Defer' s b t) hands h =
      subst (IsBegunSo w) (sym h.1.7) (refl, at_cases (λ (row : Row). IsToTake row → ⊥) w.row i _ i (λ e never. never) (λ ne. absurd (ne refl)))
  row_begun w begun (Register' enters) hands h = absurd hands
  row_begun w begun (Enter' s) hands h = absurd hands
  row_begun w begun (Leave' s) hands h = absurd hands
  row_begun w begun (LeaveOwned s) hands h = absurd hands
  row_begun w begun (Refresh s) hands h = absurd hands
  row_begun w begun (Unregister' s) hands h = absurd hands
  row_begun w begun (Flush s) hands h = absurd hands

  one_keeps : (w w2 : World (Node K V)) → CameAbout setting.batch_size w → (IsToTake (w.row i) → ⊥) → IsOneStep setting i w w2 → (b : ℕ) → IsSome (value_at w.memory b) → value_at w2.memory b ≡ None → ⊥
  one_keeps w w2 came never (inl step) b there gone = row_keeps i w w2 setting.batch_size (came_reached setting.batch_size w came) step never b there gone
  one_keeps w w2 came never (inr (request, begun, hands, begins, step)) b there gone =
      let so = row_begun w begun request hands begins in
      row_keeps i begun w2 setting.batch_size (came_reached setting.batch_size begun (came_next setting.batch_size w begun (Begin i request) came begins)) step so.1 b
      (subst (λ (n : Mem (Node K V)). IsSome (value_at n b)) (sym so.0) there) gone

  pub takes_none : (w w2 : World (Node K V)) → CameAbout setting.batch_size w → (IsToTake (w.row i) → ⊥) → IsOneStep setting i w w2 → (told : Changed) → LeavesBy w.memory w2.memory told → TakesNone told
  takes_none w w2 came never step changed.Nothing left = tt
  takes_none w w2 came never step (changed.Wrote at old new) left = tt
  takes_none w w2 came never step (changed.Made k b) left = tt
  takes_none w w2 came never step (changed.Unmade k) left = tt
  takes_none w w2 came never step (changed.Took b) left = one_keeps w w2 came never step b left.0 left.1
  takes_none w w2 came never step (changed.Roomed bucket had) left = tt
