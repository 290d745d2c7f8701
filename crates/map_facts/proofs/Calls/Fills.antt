-- A call that asks, puts what it was told into its own block, or gives that block up.
use Rattle.std.specs.Prelude.{◌≡◌, ℕ, Bool, Option, Some, None}
use Rattle.std.proofs.Common.{refl, ap, sym, subst, ◌∙◌, inl, inr}
use Rattle.map_rule.specs.Given.SeizeWordsMem.{Mem, value_at, Took}
use Rattle.map_rule.specs.Given.SeizeWordsPlan.{Turn, Now, Steps}
use Rattle.papaya_raw.specs.Given.SeizeWorld.{World}
use Rattle.papaya_raw.specs.CallFills.{fills, gives_up}
use Rattle.papaya_raw.specs.CallPoints.{standing, going}
use Rattle.papaya_raw.specs.Replies.{value_for}
use Rattle.papaya_raw.specs.Given.TablesDeclared.marks.TheConstants.{TOMBSTONE}
use Rattle.papaya_raw.specs.Given.TablesDeclared.node.Node.{Node}
use Rattle.papaya_raw.specs.Given.TablesDeclared.setting.Setting.{Setting}
use Rattle.papaya_raw.specs.declared.machines.answer.End.TheVariants as ends
use Rattle.papaya_raw.specs.declared.machines.answer.Called.{Called}
use Rattle.papaya_raw.specs.declared.machines.answer.Called.TheVariants.{Asks, Unstored}
use Rattle.papaya_raw.specs.declared.machines.asking.Asking.{Asking}
use Rattle.papaya_raw.specs.declared.machines.asking.Asking.TheVariants as asking
use Rattle.papaya_raw.specs.declared.machines.asking.Takes.{Takes}
use Rattle.papaya_raw.specs.declared.machines.asking.Replies.{Replies}
use Rattle.papaya_raw.specs.declared.machines.call.KeyCall.{KeyCall}
use Rattle.papaya_raw.specs.declared.machines.call.Calling.TheVariants as at
use Rattle.map_rule.specs.Given.SeizeWordsDeclared.fault.Fault.TheVariants.{Memory}
use Rattle.map_rule.specs.Chart.{Chart}
use Rattle.map_rule.specs.Words.{Blocks}
use Rattle.map_rule.specs.InWorld.{IsMapIn}
use Rattle.map_facts.specs.FactsCalls.{Change, Unchanged, MayStore, RepliesFit, ByReply, holding, IsOwnPair, HasIts, AtTry, NamesPair, MayReplace, MayTry, IsToFill, CallFacts}
use Rattle.map_facts.specs.Told.{CallOutcome}
use Rattle.map_facts.specs.FactsIdle.{IsIdle}
use Rattle.map_rule.proofs.World.WentStill.{went_still}
use Rattle.map_facts.proofs.Calls.CallsOn.{Seeking, told_unchanged, goes}
use Rattle.map_facts.proofs.Calls.FillSteps as steps
use Rattle.map_facts.proofs.Calls.Makes.{CallWent, by_end}

module _ {K V Q : Type 0} (same : K → K → Bool) (hash : K → ℕ) (asks : Q → K → Bool) (caller : ℕ) (setting : Setting) (keys : K → Bool)
    (w : World (Node K V)) (c : Chart K) (blocks : Blocks) (map : IsMapIn same hash setting w c blocks) (change : Change) (p : KeyCall K V Q)
    (f : CallFacts same hash asks w caller setting c blocks keys change p) (none : change ≡ Unchanged) (idle : IsIdle same hash w caller setting c blocks) where
  -- it asks again
  pub went_asks : (asking : Asking) (asked : Option ℕ) → p.stands ≡ at.Asks asking → (m2 : Mem (Node K V)) (end : KeyCall K V Q × Called (Node K V))
      → Steps Took value_at w.memory (Turn (Now (p, Asks asked))) m2 end → CallWent same hash asks caller setting keys w c blocks map change p f m2 end
  went_asks asking asked here m2 end s =
      by_end same hash asks caller setting keys w c blocks map change p f m2 end (p, Asks asked) s.1
      (went_still same hash setting caller w c blocks map m2 s.0 (λ w2 c2 blocks2. CallOutcome same hash asks caller setting keys c change p w2 c2 blocks2 p (Asks asked)) (record {
        change2 = change;
        facts = f;
        changes = inl (refl, refl);
        beside = λ other. inl refl;
        answers = λ answer answered fresh. absurd (fresh answered);
        tells = λ answer answered fresh. absurd (fresh answered);
      }))

  module _ (word : ℕ) (by_reply : holding p.replies.takes p.missing ≡ ByReply) (try : AtTry same hash asks w caller setting c blocks keys change p) where
    abbrev Told : World (Node K V) → Chart K → Blocks → KeyCall K V Q × Called (Node K V) → Type 0
    Told w2 c2 blocks2 end = CallOutcome same hash asks caller setting keys c change p w2 c2 blocks2 end.0 end.1

    may_with : (replies : Replies K V) → replies.takes ≡ p.replies.takes → MayStore replies.takes p.there p.missing
    may_with replies takes_is = subst (λ (x : Takes). MayStore x p.there p.missing) (sym takes_is) f.may.0

    -- it is to replace the word then
    tries_so : (v : World (Node K V)) (replies : Replies K V) (own new : ℕ) → replies.takes ≡ p.replies.takes → RepliesFit replies
        → HasIts same hash asks v caller setting c blocks keys Unchanged (record p { replies = replies; own = own })
        → MayTry same hash asks v caller setting c blocks keys Unchanged (record p { replies = replies; own = own }) word new
        → Told v c blocks (going (record p { replies = replies; own = own }) (at.Tries word new))
    tries_so v replies own new takes_is fits its may =
        told_unchanged same hash asks caller setting keys v c blocks c change p (going (record p { replies = replies; own = own }) (at.Tries word new)) none refl (λ other. inl refl)
        (goes same hash asks caller setting keys v c blocks (record p { replies = replies; own = own }) seeks p.trial p.helped (at.Tries word new) (λ answer h. h) (its, may, try))
      where
        seeks : Seeking same hash asks caller setting keys v c blocks (record p { replies = replies; own = own })
        seeks = record { setting_is = f.setting_is; may = (may_with replies takes_is, fits); code = f.code; class = f.class; idle = idle; own = its }

    -- it fills its block
    module _ (may : MayReplace same hash asks w caller setting c blocks keys change word) (value : V) (told : value_for p.replies word ≡ Some value)
        (held : IsToFill same hash asks w caller setting c blocks keys Unchanged p) where
      goes_so : (v : World (Node K V)) (replies : Replies K V) → replies.takes ≡ p.replies.takes → RepliesFit replies
          → IsToFill same hash asks v caller setting c blocks keys Unchanged (record p { replies = replies }) → ((value : V) × (value_for replies word ≡ Some value))
          → Told v c blocks (going (record p { replies = replies }) (at.Asks (asking.Fills word)))
      goes_so v replies takes_is fits held told =
          told_unchanged same hash asks caller setting keys v c blocks c change p (going (record p { replies = replies }) (at.Asks (asking.Fills word))) none refl (λ other. inl refl) (
            record {
              setting_is = f.setting_is;
              may = (may_with replies takes_is, fits);
              code = f.code;
              class = f.class;
              unchanged = λ h. refl;
              idle = λ h. idle;
              point = (held, ap (λ (x : Takes). holding x p.missing) takes_is ∙ by_reply, told, may, try);
            },
            λ answer h. absurd h,
          )

      refused_so : (replies : Replies K V) (back : Node K V) → replies.takes ≡ p.replies.takes → RepliesFit replies → Told w c blocks (standing (record p { replies = replies }) (at.Over (ends.Refused Memory)), Unstored back)
      refused_so replies back takes_is fits =
          told_unchanged same hash asks caller setting keys w c blocks c change p (standing (record p { replies = replies }) (at.Over (ends.Refused Memory)), Unstored back) none refl (λ other. inl refl) (
            record { setting_is = f.setting_is; may = (may_with replies takes_is, fits); code = f.code; class = f.class; unchanged = λ h. absurd h; idle = λ h. idle; point = refl },
            λ answer h. absurd (cc h),
          )

      pub went_fills : (m2 : Mem (Node K V)) (end : KeyCall K V Q × Called (Node K V)) → Steps Took value_at w.memory (fills p word) m2 end
          → CallWent same hash asks caller setting keys w c blocks map change p f m2 end
      went_fills m2 end s =
          steps.went_fills same hash asks caller setting keys w c blocks map p f.may f.code word by_reply Told
          (λ v replies own takes_is fits its pair. tries_so v replies own own takes_is fits its (inl (refl, pair, may))) goes_so refused_so m2 end value told s held

    -- it gives its block up
    pub went_gives_up : (p.asked ≡ None) × (p.replies.key ≡ None) × IsOwnPair same hash asks w caller setting c blocks keys Unchanged p.own p.hash → NamesPair same hash asks w caller setting c blocks keys change word
        → (m2 : Mem (Node K V)) (end : KeyCall K V Q × Called (Node K V)) → Steps Took value_at w.memory (gives_up p word) m2 end → CallWent same hash asks caller setting keys w c blocks map change p f m2 end
    went_gives_up (asked, out, own) names m2 end s =
        steps.went_gives_up same hash asks caller setting keys w c blocks map p f.may f.code word by_reply Told
        (λ v replies takes_is fits its. tries_so v replies 0 TOMBSTONE takes_is fits its (inr (refl, refl, names))) asked own m2 end s
