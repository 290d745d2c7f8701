-- A call that asks in a table that the root has left, puts what it was told into its own block, or gives that block up.
use Rattle.std.specs.Prelude.{◌≡◌, ℕ, Bool, false, Option, Some, None}
use Rattle.std.proofs.Common.{refl, ap, sym, subst, ◌∙◌, inl, inr}
use Rattle.map_facts.specs.Given.SeizeWordsMem.{Mem, value_at, Took}
use Rattle.map_facts.specs.Given.SeizeWordsPlan.{Turn, Now, Steps}
use Rattle.map_facts.specs.Given.SeizeWorld.{World}
use Rattle.map_facts.specs.Given.RawCallFills.{fills, gives_up}
use Rattle.map_facts.specs.Given.RawCallPoints.{standing, going}
use Rattle.map_facts.specs.Given.RawReplies.{value_for}
use Rattle.map_facts.specs.Given.TablesChunks.{is_incremental}
use Rattle.map_facts.specs.Given.TablesDeclared.marks.TheConstants.{TOMBSTONE}
use Rattle.map_facts.specs.Given.TablesDeclared.node.Node.{Node}
use Rattle.map_facts.specs.Given.TablesDeclared.setting.Setting.{Setting}
use Rattle.map_facts.specs.Given.RawDeclared.machines.answer.End.TheVariants as ends
use Rattle.map_facts.specs.Given.RawDeclared.machines.answer.Called.{Called}
use Rattle.map_facts.specs.Given.RawDeclared.machines.answer.Called.TheVariants.{Asks, Unstored}
use Rattle.map_facts.specs.Given.RawDeclared.machines.asking.Asking.{Asking}
use Rattle.map_facts.specs.Given.RawDeclared.machines.asking.Asking.TheVariants as asking
use Rattle.map_facts.specs.Given.RawDeclared.machines.asking.Takes.{Takes}
use Rattle.map_facts.specs.Given.RawDeclared.machines.asking.Replies.{Replies}
use Rattle.map_facts.specs.Given.RawDeclared.machines.call.KeyCall.{KeyCall}
use Rattle.map_facts.specs.Given.RawDeclared.machines.call.Calling.TheVariants as at
use Rattle.map_facts.specs.Given.SeizeWordsDeclared.fault.Fault.TheVariants.{Memory}
use Rattle.map_facts.specs.Given.RuleChart.{Chart}
use Rattle.map_facts.specs.Given.RuleWords.{Blocks}
use Rattle.map_facts.specs.Given.RuleInWorld.{IsMapIn}
use Rattle.map_facts.specs.FactsCalls.{Unchanged, MayStore, RepliesFit, ByReply, holding, IsOwnPair, HasIts, NamesPair, MayReplace, MayTry, IsToFill}
use Rattle.map_facts.proofs.Given.RuleWorld.WentStill.{went_still}
use Rattle.map_facts.proofs.Calls.CallsOn.{Seeking}
use Rattle.map_facts.proofs.Calls.FillSteps as steps
use Rattle.map_facts.proofs.MovedLasts.{idle_in}
use Rattle.map_facts_late.specs.LateLooks.{IsSupersededTrial}
use Rattle.map_facts_late.specs.LateCalls.{SupersededCallFacts}
use Rattle.map_facts_late.specs.LateTold.{SupersededCallOutcome}
use Rattle.map_facts_late.proofs.Calls.LatesOn.{LateComes, LateWent, told_late, goes_late}

module _ {K V Q : Type 0} (same : K → K → Bool) (hash : K → ℕ) (asks : Q → K → Bool) (caller : ℕ) (setting : Setting) (alone : is_incremental setting.mode ≡ false) (keys : K → Bool) (began : ℕ)
    (w : World (Node K V)) (c : Chart K) (blocks : Blocks) (map : IsMapIn same hash setting w c blocks) (p : KeyCall K V Q)
    (f : SupersededCallFacts same hash asks w caller setting c blocks keys began p) where
  abbrev Told : World (Node K V) → Chart K → Blocks → KeyCall K V Q × Called (Node K V) → Type 0
  Told w2 c2 blocks2 end = SupersededCallOutcome same hash asks caller setting keys began c p w2 c2 blocks2 end.0 end.1

  -- it asks again
  pub went_asks : (asks_at : Asking) (asked : Option ℕ) → p.stands ≡ at.Asks asks_at → (m2 : Mem (Node K V)) (end : KeyCall K V Q × Called (Node K V))
      → Steps Took value_at w.memory (Turn (Now (p, Asks asked))) m2 end → LateWent same hash asks caller setting alone keys began w c blocks p m2 end
  went_asks asks_at asked here m2 end s =
      subst (λ (e : KeyCall K V Q × Called (Node K V)). LateWent same hash asks caller setting alone keys began w c blocks p m2 e) (sym s.1)
      (went_still same hash setting caller w c blocks map m2 s.0 (λ w2 c2 blocks2. Told w2 c2 blocks2 (p, Asks asked)) (record {
        facts = inr f;
        same_pairs = refl;
        beside = λ other. inl refl;
        answers = λ answer answered fresh. absurd (fresh answered);
      }))

  module _ (word : ℕ) (by_reply : holding p.replies.takes p.missing ≡ ByReply) (try : IsSupersededTrial same hash keys p.hash c blocks began p.trial) where
    may_with : (replies : Replies K V) → replies.takes ≡ p.replies.takes → MayStore replies.takes p.there p.missing
    may_with replies takes_is = subst (λ (x : Takes). MayStore x p.there p.missing) (sym takes_is) f.may.0

    tells : (v : World (Node K V)) (end : KeyCall K V Q × Called (Node K V)) → LateComes same hash asks caller setting alone keys began v c blocks end → Told v c blocks end
    tells v end = told_late same hash asks caller setting alone keys began v c blocks c p end refl (λ other. inl refl)

    -- it is to replace the word then
    tries_so : (v : World (Node K V)) (replies : Replies K V) (own new : ℕ) → replies.takes ≡ p.replies.takes → RepliesFit replies
        → HasIts same hash asks v caller setting c blocks keys Unchanged (record p { replies = replies; own = own })
        → MayTry same hash asks v caller setting c blocks keys Unchanged (record p { replies = replies; own = own }) word new
        → Told v c blocks (going (record p { replies = replies; own = own }) (at.Tries word new))
    tries_so v replies own new takes_is fits its may =
        tells v (going (record p { replies = replies; own = own }) (at.Tries word new))
        (goes_late same hash asks caller setting alone keys began v c blocks (record p { replies = replies; own = own }) seeks p.trial (at.Tries word new) (λ answer h. h) (its, try, may))
      where
        seeks : Seeking same hash asks caller setting keys v c blocks (record p { replies = replies; own = own })
        seeks = record {
          setting_is = f.setting_is;
          may = (may_with replies takes_is, fits);
          code = f.code;
          class = f.class;
          idle = idle_in same hash v caller setting c blocks false alone f.idle;
          own = its;
        }

    -- it fills its block
    module _ (may : MayReplace same hash asks w caller setting c blocks keys Unchanged word) (value : V) (told : value_for p.replies word ≡ Some value)
        (held : IsToFill same hash asks w caller setting c blocks keys Unchanged p) where
      goes_so : (v : World (Node K V)) (replies : Replies K V) → replies.takes ≡ p.replies.takes → RepliesFit replies
          → IsToFill same hash asks v caller setting c blocks keys Unchanged (record p { replies = replies }) → ((value : V) × (value_for replies word ≡ Some value))
          → Told v c blocks (going (record p { replies = replies }) (at.Asks (asking.Fills word)))
      goes_so v replies takes_is fits held told =
          tells v (going (record p { replies = replies }) (at.Asks (asking.Fills word))) (
            inr record {
              blocking = alone;
              setting_is = f.setting_is;
              may = (may_with replies takes_is, fits);
              code = f.code;
              class = f.class;
              idle = f.idle;
              point = (held, ap (λ (x : Takes). holding x p.missing) takes_is ∙ by_reply, told, may, try);
            },
            λ answer h. absurd h,
          )

      refused_so : (replies : Replies K V) (back : Node K V) → replies.takes ≡ p.replies.takes → RepliesFit replies → Told w c blocks (standing (record p { replies = replies }) (at.Over (ends.Refused Memory)), Unstored back)
      refused_so replies back takes_is fits =
          tells w (standing (record p { replies = replies }) (at.Over (ends.Refused Memory)), Unstored back) (
            inl record {
              setting_is = f.setting_is;
              may = (may_with replies takes_is, fits);
              code = f.code;
              class = f.class;
              unchanged = λ h. absurd h;
              idle = λ h. idle_in same hash w caller setting c blocks false alone f.idle;
              point = refl;
            },
            λ answer h. absurd (cc h),
          )

      pub went_fills : (m2 : Mem (Node K V)) (end : KeyCall K V Q × Called (Node K V)) → Steps Took value_at w.memory (fills p word) m2 end
          → LateWent same hash asks caller setting alone keys began w c blocks p m2 end
      went_fills m2 end s =
          steps.went_fills same hash asks caller setting keys w c blocks map p f.may f.code word by_reply Told
          (λ v replies own takes_is fits its pair. tries_so v replies own own takes_is fits its (inl (refl, pair, may))) goes_so refused_so m2 end value told s held

    -- it gives its block up
    pub went_gives_up : (p.asked ≡ None) × (p.replies.key ≡ None) × IsOwnPair same hash asks w caller setting c blocks keys Unchanged p.own p.hash → NamesPair same hash asks w caller setting c blocks keys Unchanged word
        → (m2 : Mem (Node K V)) (end : KeyCall K V Q × Called (Node K V)) → Steps Took value_at w.memory (gives_up p word) m2 end → LateWent same hash asks caller setting alone keys began w c blocks p m2 end
    went_gives_up (asked, out, own) names m2 end s =
        steps.went_gives_up same hash asks caller setting keys w c blocks map p f.may f.code word by_reply Told
        (λ v replies takes_is fits its. tries_so v replies 0 TOMBSTONE takes_is fits its (inr (refl, refl, names))) asked own m2 end s
