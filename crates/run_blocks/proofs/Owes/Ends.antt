-- A call on one key that has ended names no block of its own any more, but that of the pair which it has stored.
use Rattle.std.specs.Prelude.{◌≡◌, ◌≢◌, ◌<◌, ℕ, Bool, true, None, ◌⊎◌}
use Rattle.std.proofs.Common.{refl, subst, inl, inr}
use Rattle.run_debts.specs.Given.SeizeWordsWord.{block_in}
use Rattle.run_debts.specs.Given.SeizeWordsDeclared.fault.Fault.{Fault}
use Rattle.run_debts.specs.Given.SeizeWorld.{World}
use Rattle.run_debts.specs.Given.TablesDeclared.node.Node.{Node}
use Rattle.run_debts.specs.Given.TablesDeclared.setting.Setting.{Setting}
use Rattle.owner_calls.specs.Given.RawProgress.{of_called}
use Rattle.run_debts.specs.Given.RawDeclared.machines.answer.Called.{Called}
use Rattle.run_debts.specs.Given.RawDeclared.machines.answer.Called.TheVariants as called
use Rattle.run_debts.specs.Given.RawDeclared.machines.answer.KeyAnswer.{KeyAnswer}
use Rattle.run_debts.specs.Given.RawDeclared.machines.call.KeyCall.{KeyCall}
use Rattle.owner_calls.specs.Given.RuleChart.{Chart}
use Rattle.owner_calls.specs.Given.RuleWords.{Blocks}
use Rattle.owner_calls.specs.Given.PointsFactsCalls.{Change}
use Rattle.owner_calls.specs.Given.PointsSteps.{AreLawful}
use Rattle.owner_calls.specs.Given.CallersTogether.{CallOnKey, in_slot, next_of, AnswersOnce}
use Rattle.run_debts.specs.Given.EffectsKnown.{Known}
use Rattle.run_debts.specs.Given.EffectsDeclared.role.Role.TheVariants as role
use Rattle.owner_calls.specs.Holds.Came.{AnswerNamesOwn, Owns}
use Rattle.owner_calls.proofs.Holds.Calls.Goes.{TellsSo}
use Rattle.run_blocks.proofs.Owes.Held.{disposes_pair, answered_pair}

module _ {K V : Type 0} where
  -- one that is refused has none
  pub refused_own : (r : KeyCall K V K × Called (Node K V)) (fault : Fault) → of_called (called.Refused fault) ≡ of_called r.1 → TellsSo r → r.0.own ≡ 0
  refused_own (p, called.Refused other) fault e so = so
  refused_own (p, called.Goes) fault e so = absurd (cc e)
  refused_own (p, called.Waits) fault e so = absurd (cc e)
  refused_own (p, called.Gave value) fault e so = absurd (cc e)
  refused_own (p, called.Unstored value) fault e so = absurd (cc e)
  refused_own (p, called.Asks about) fault e so = absurd (cc e)
  refused_own (p, called.Done answer) fault e so = absurd (cc e)

  -- and what one answers tells its block, or that it has none
  pub answered_own : (r : KeyCall K V K × Called (Node K V)) (answer : KeyAnswer) → of_called (called.Done answer) ≡ of_called r.1 → TellsSo r → AnswerNamesOwn r.0.own answer
  answered_own (p, called.Done other) answer e so = let one : other ≡ answer = cc e in subst (AnswerNamesOwn p.own) one so
  answered_own (p, called.Goes) answer e so = absurd (cc e)
  answered_own (p, called.Waits) answer e so = absurd (cc e)
  answered_own (p, called.Gave value) answer e so = absurd (cc e)
  answered_own (p, called.Unstored value) answer e so = absurd (cc e)
  answered_own (p, called.Asks about) answer e so = absurd (cc e)
  answered_own (p, called.Refused fault) answer e so = absurd (cc e)

-- which is then that of a pair
module _ {K V : Type 0} (same : K → K → Bool) (hash : K → ℕ) (setting : Setting) (slot : ℕ → ℕ) (w : World (Node K V)) (c : Chart K) (seen : Blocks) (i : ℕ) (u : CallOnKey K V K)
    (lawful : AreLawful same hash) (known : Known) (number : ℕ → ℕ) (roles : (n : ℕ) → n < c.stored → seen.pair_known n ≡ true → known.roles (seen.pair n) ≡ role.Pair (number n))
    (pairs : (n : ℕ) → n < c.stored → seen.pair_known n ≡ true → 0 < seen.pair n) where
  pub answer_pair : (p : KeyCall K V K) → Owns p → p.own ≢ 0 → (change : Change) (answer : KeyAnswer) → AnswersOnce V same hash same setting slot w c seen i u change answer → AnswerNamesOwn p.own answer
      → (n : ℕ) × (known.roles (block_in p.own) ≡ role.Pair n)
  answer_pair p o some change answer (fits, inl (none, so, leaves)) own =
      answered_pair same hash w i (in_slot setting (slot i)) c seen u.keys p o.code some lawful known number roles pairs u.began answer so own
  answer_pair p o some change answer (fits, inr (changed, tells, stores)) own =
      disposes_pair same hash w i (in_slot setting (slot i)) c seen u.keys p o.code some lawful known number roles pairs change change answer tells own

module _ {K V : Type 0} where
  -- a call on one key has ended with an answer, or with a refusal
  pub which_end : (u : CallOnKey K V K) (end : Called (Node K V)) → next_of u end ≡ None → ((answer : KeyAnswer) × (end ≡ called.Done answer)) ⊎ ((fault : Fault) × (end ≡ called.Refused fault))
  which_end u (called.Done answer) e = inl (answer, refl)
  which_end u (called.Refused fault) e = inr (fault, refl)
  which_end u called.Goes e = absurd (cc e)
  which_end u called.Waits e = absurd (cc e)
  which_end u (called.Gave value) e = absurd (cc e)
  which_end u (called.Unstored value) e = absurd (cc e)
  which_end u (called.Asks about) e = absurd (cc e)
