-- Sections that are open, by what has happened: they go on, and hold what they held, whatever users do, and whichever row steps, but for the one that it ends.
use Rattle.std.specs.Prelude.{Ok, Err, Option}
use Rattle.std.proofs.Common.{◌≡◌, ℕ, true, List, [], ◌∷◌, ◌++◌, refl, ap, sym, subst, ◌∙◌, ◌+◌, arith}
use Rattle.run_schedules.specs.Given.SeizeWordsMem.{Mem}
use Rattle.run_schedules.specs.Given.SeizeWordsOp.{Out, Found, Stored, Exchanged, Made, Taken, Roomed}
use Rattle.run_logged.specs.Given.SeizeLaw.{Deferred, Dropped, Effect, Ended, Entered, Left, LeftOver, Linked, Made as MadeBlock, Retired, Taken as TakenBlock, Unlinked, holds, is_open}
use Rattle.seize_acts.specs.Given.SeizeWorld.{Begin, Chooses, Clears, Defers, Drops, Ends, Enters, Event, Frees, Hand, Happens, Leaves, LeavesOver, Links, Makes, Making, Operates, Parts, Registers, Relinks, Rests, Rewrites, Row, Runs, Settles, Step, Steps', Unlinks, World, leave_effects, leaves_on, defers_on, made_by, register_effects, registers_on, settle_effects, settles_on}
use Rattle.run_logged.specs.Given.SeizeSequence.{IsUsers}
use Rattle.seize_acts.specs.Given.SeizeDeclared.advance.Advance.{Advance}
use Rattle.seize_acts.specs.Given.SeizeDeclared.advance.Advance.TheVariants as progress
use Rattle.seize_acts.specs.Given.SeizeDeclared.rows.defer.Defer.{Defer}
use Rattle.seize_acts.specs.Given.SeizeDeclared.rows.leave.Leave.{Leave}
use Rattle.seize_acts.specs.Given.SeizeDeclared.rows.leave.Leaving.TheVariants as leaving
use Rattle.seize_acts.specs.Given.SeizeDeclared.rows.register.Register.{Register}
use Rattle.seize_acts.specs.Given.SeizeDeclared.rows.settle.Settle.{Settle}
use Rattle.seize_acts.specs.Given.SeizeDeclared.rows.settle.Settled.{Settled}
use Rattle.seize_acts.specs.Given.SeizeDeclared.rows.settle.Settled.TheVariants as settled
use Rattle.seize_acts.specs.Given.SeizeDeclared.states.TheConstants.{LAST_SLOT}
use Rattle.seize_acts.proofs.Given.SeizeMovesMoves.Blocks.{never_held}
use Rattle.seize_acts.proofs.Given.SeizeMovesState.Held.{NoneLeft, NotLeft, held_beside, held_through}
use Rattle.seize_acts.proofs.Given.SeizeRulePoints.Aside.{HandFits}
use Rattle.seize_acts.proofs.Given.SeizeRuleRows.Effects.{leave_goes_on, register_goes_on, settle_goes_on}
use Rattle.seize_acts.proofs.Given.SeizeAloneHistories.Reached.{Reached, happens_reached}
use Rattle.play_lists.specs.Given.TablesNodes.{deferred_word}
use Rattle.play_lists.specs.Given.TablesDeclared.node.Node.{Node}
use Rattle.play_lists.specs.Given.RuleInWorld.{AllUsers}

-- an open section is open still after what does not end it
open_on : (s : ℕ) (e : Effect) (log : List Effect) → NotLeft s e → is_open s log ≡ true → is_open s (e ∷ log) ≡ true
open_on s (Entered t) log n o = grind (arith, o)
open_on s (Left t) log n o = grind (arith, n, o)
open_on s (MadeBlock c) log n o = o
open_on s (Linked c w) log n o = o
open_on s (Deferred c t) log n o = o
open_on s (Unlinked c) log n o = o
open_on s (Retired c) log n o = o
open_on s (TakenBlock c) log n o = o
open_on s (Dropped c) log n o = absurd n
open_on s (Ended w) log n o = o
open_on s (LeftOver c further) log n o = o

open_through : (s : ℕ) (effects log : List Effect) → NoneLeft s effects → is_open s log ≡ true → is_open s (effects ++ log) ≡ true
open_through s [] log n o = o
open_through s (e ∷ effects) log n o = open_on s e (effects ++ log) n.0 (open_through s effects log n.1 o)

-- The section of a slot is open still, and holds what it held.
pub record Keeps {T : Type 0} (s : ℕ) (w v : World T) : Type 0 where
  pub stays : is_open s w.log ≡ true → is_open s v.log ≡ true
  pub held : (b : ℕ) → holds s b w.log ≡ true → holds s b v.log ≡ true

module _ {T : Type 0} (s : ℕ) (w : World T) where
  pub keeps_by : (effects : List Effect) → NoneLeft s effects → (v : World T) → v.log ≡ effects ++ w.log → Keeps s w v
  keeps_by effects none v is = record {
    stays = λ o. ap (is_open s) is ∙ open_through s effects w.log none o;
    held = λ b h. ap (holds s b) is ∙ held_through s b effects w.log none h;
  }

  pub keeps_same : (v : World T) → v.log ≡ w.log → Keeps s w v
  keeps_same v is = keeps_by [] tt v is

  pub keeps_then : (v u : World T) → Keeps s w v → Keeps s v u → Keeps s w u
  keeps_then v u one two = record { stays = λ o. two.stays (one.stays o); held = λ b h. two.held b (one.held b h) }

  -- a row does not end this section with its next step
  abbrev pub Spares : Row → Type 0
  Spares row = (c : Leave) → row ≡ Leaves c → c.stands ≡ leaving.Swaps → c.slot ≡ s → ⊥

module _ {T : Type 0} (defers : T → Option ℕ) (i s : ℕ) (w w2 : World T) where
  at_end : (v : World T) → w2 ≡ v → Keeps s w v → Keeps s w w2
  at_end v is so = subst (Keeps s w) (sym is) so

  settles_keep : (c d : Settle) (m : Mem T) (p : Settled T) → Keeps s w (settles_on w i c m (d, p))
  settles_keep c d m settled.Goes = keeps_by s w (settle_effects c c.stands) (settle_goes_on s c c.stands) (settles_on w i c m (d, settled.Goes)) refl
  settles_keep c d m settled.Waits = keeps_by s w (settle_effects c c.stands) (settle_goes_on s c c.stands) (settles_on w i c m (d, settled.Waits)) refl
  settles_keep c d m (settled.Gave value) = keeps_by s w (settle_effects c c.stands) (settle_goes_on s c c.stands) (settles_on w i c m (d, settled.Gave value)) refl
  settles_keep c d m settled.Done = keeps_by s w [] tt (settles_on w i c m (d, settled.Done)) refl

  registers_keep : (c d : Register) (m : Mem T) (p : Advance ℕ) → Keeps s w (registers_on w i c m (d, p))
  registers_keep c d m progress.Goes = keeps_by s w (register_effects c c.stands) (register_goes_on s c c.stands) (registers_on w i c m (d, progress.Goes)) refl
  registers_keep c d m progress.Waits = keeps_by s w (register_effects c c.stands) (register_goes_on s c c.stands) (registers_on w i c m (d, progress.Waits)) refl
  registers_keep c d m (progress.Done slot) = keeps_by s w (register_effects c c.stands) (register_goes_on s c c.stands) (registers_on w i c m (d, progress.Done slot)) refl
  registers_keep c d m (progress.Refused fault) = keeps_by s w [] tt (registers_on w i c m (d, progress.Refused fault)) refl

  defers_keep : (slot : ℕ) (d : Defer) (m : Mem T) (p : Advance Unit) → Keeps s w (defers_on w i slot m (d, p))
  defers_keep slot d m progress.Goes = keeps_by s w [] tt (defers_on w i slot m (d, progress.Goes)) refl
  defers_keep slot d m progress.Waits = keeps_by s w [] tt (defers_on w i slot m (d, progress.Waits)) refl
  defers_keep slot d m (progress.Done u) = keeps_by s w [] tt (defers_on w i slot m (d, progress.Done u)) refl
  defers_keep slot d m (progress.Refused fault) = keeps_by s w [] tt (defers_on w i slot m (d, progress.Refused fault)) refl

  -- A step of a row keeps each section that it does not end.
  pub step_keeps : (row : Row) → Spares s w row → Steps' defers i row w w2 → Keeps s w w2
  step_keeps Rests spares h = absurd h
  step_keeps (Registers c) spares h = at_end _ h.3 (registers_keep c h.1.0 h.0 h.1.1)
  step_keeps (Enters c) spares h = at_end _ h.3 (keeps_by s w (Entered c.slot ∷ []) (tt, tt) _ refl)
  step_keeps (Settles c) spares h = at_end _ h.3 (settles_keep c h.1.0 h.0 h.1.1)
  step_keeps (Leaves c) spares h =
      at_end (leaves_on w i c h.0 h.1) h.3 (keeps_by s w (leave_effects c c.stands) (leave_goes_on s c c.stands (λ at on. spares c refl at on)) (leaves_on w i c h.0 h.1) refl)
  step_keeps (Defers slot c) spares h = at_end _ h.3 (defers_keep slot h.1.0 h.0 h.1.1)
  step_keeps (Frees c) spares h = at_end _ h.3 (keeps_by s w [] tt _ refl)

module _ {K V : Type 0} (size s : ℕ) where
  made_keeps : (w : World (Node K V)) (i : ℕ) (m : Mem (Node K V)) (out : Out (Node K V)) → Keeps s w (made_by deferred_word w i m out)
  made_keeps w i m (Made (Ok b)) = keeps_by s w (MadeBlock b ∷ []) (tt, tt) (made_by deferred_word w i m (Made (Ok b))) refl
  made_keeps w i m (Made (Err back)) = keeps_same s w (made_by deferred_word w i m (Made (Err back))) refl
  made_keeps w i m (Found word) = keeps_same s w (made_by deferred_word w i m (Found word)) refl
  made_keeps w i m Stored = keeps_same s w (made_by deferred_word w i m Stored) refl
  made_keeps w i m (Exchanged result) = keeps_same s w (made_by deferred_word w i m (Exchanged result)) refl
  made_keeps w i m (Taken block) = keeps_same s w (made_by deferred_word w i m (Taken block)) refl
  made_keeps w i m (Roomed result) = keeps_same s w (made_by deferred_word w i m (Roomed result)) refl

  -- no section holds a block that was never linked
  dropped_keeps : (w v : World (Node K V)) → Reached deferred_word size w → (b h : ℕ) → w.hand b ≡ Making h → v.log ≡ Dropped b ∷ w.log → Keeps s w v
  dropped_keeps w v r b h making is = record {
    stays = λ o. ap (is_open s) is ∙ o;
    held = λ x holds_it. ap (holds s x) is ∙ held_beside s x b w.log (apart x holds_it) holds_it;
  }
    where
      apart : (x : ℕ) → holds s x w.log ≡ true → x ≡ b → ⊥
      apart x holds_it same =
          let owned = subst (λ (k : Hand). HandFits k (r.good.state.life b)) making (r.good.hands b) in
          let none = ap (holds s b) (sym r.good.logged) ∙ never_held (LAST_SLOT + 1) h r.good.state b r.good.inv owned s in
          let here = subst (λ (y : ℕ). holds s y w.log ≡ true) same holds_it in cc (none, here)

  -- What users do keeps all sections,
  user_keeps : (e : Event (Node K V)) (w v : World (Node K V)) → Reached deferred_word size w → IsUsers e → Happens deferred_word size e w v → Keeps s w v
  user_keeps (Begin i request) w v r u e = absurd u
  user_keeps (Step i) w v r u e = absurd u
  user_keeps (Makes i value words) w v r u e = subst (Keeps s w) (sym e.4) (made_keeps w i e.1 e.0)
  user_keeps (Drops i b) w v r u e = dropped_keeps w v r b e.2.0 e.2.1 (ap (λ (y : World (Node K V)). y.log) e.4)
  user_keeps (Links i b o) w v r u e = keeps_by s w (Linked b o ∷ []) (tt, tt) v (ap (λ (y : World (Node K V)). y.log) e.1)
  user_keeps (Parts i b) w v r u e = keeps_same s w v (ap (λ (y : World (Node K V)). y.log) e.1)
  user_keeps (Unlinks i b) w v r u e = keeps_by s w (Unlinked b ∷ []) (tt, tt) v (ap (λ (y : World (Node K V)). y.log) e.1)
  user_keeps (Rewrites i b value) w v r u e = keeps_same s w v (ap (λ (y : World (Node K V)). y.log) e.5)
  user_keeps (Operates op) w v r u e = keeps_same s w v (ap (λ (y : World (Node K V)). y.log) e.4)
  user_keeps (Ends i o) w v r u e = absurd u
  user_keeps (LeavesOver i b further) w v r u e = absurd u
  user_keeps (Relinks i b word) w v r u e = absurd u
  user_keeps (Clears i b) w v r u e = absurd u
  user_keeps (Chooses choice) w v r u e = keeps_same s w v (ap (λ (y : World (Node K V)). y.log) e)

  pub users_keep : (events : List (Event (Node K V))) (w v : World (Node K V)) → Reached deferred_word size w → AllUsers events → Runs deferred_word size events w v → Keeps s w v
  users_keep [] w v r u runs = subst (Keeps s w) (sym runs) (keeps_same s w w refl)
  users_keep (e ∷ events) w v r u runs =
      keeps_then s w runs.0 v (user_keeps e w runs.0 r u.0 runs.1) (users_keep events runs.0 v (happens_reached deferred_word size e w runs.0 r runs.1) u.1 runs.2)
