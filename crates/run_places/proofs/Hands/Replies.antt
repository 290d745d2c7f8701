-- What a call was told about a pair, or about none, is what the moment says.
use Rattle.std.specs.Prelude.{◌≡◌, ℕ, ◌<◌, ◌==◌, Bool, true, false, List, [], ◌∷◌, ◌++◌, Option, Some, None, option_map, if◌then◌else◌}
use Rattle.std.proofs.Common.{refl, ap, sym, ◌∙◌, inl, inr}
use Rattle.std.proofs.lemmas.Bool.{ne_eqb, eq-eqb, cases_eq}
use Rattle.run_shows.specs.Given.RawDeclared.machines.asking.MachineReply.{MachineReply}
use Rattle.run_shows.specs.Given.RawDeclared.machines.asking.MachineReply.TheVariants as reply
use Rattle.run_shows.specs.Given.RunsDeclared.call.Reply.{Reply}
use Rattle.run_shows.specs.Given.RunsDeclared.call.Reply.TheVariants.{Gives, Removes, Aborts, Decides}
use Rattle.run_shows.specs.Given.SchedulesThings.{same_question}
use Rattle.run_shows.specs.Given.SchedulesViews.{reply_to}
use Rattle.run_shows.specs.Given.CallersAsked.{Asked, is_about, last_reply}
use Rattle.run_places.specs.Hands.Asked.{reply_to_machine, IsSameQuestion, AreReplies}

-- what was told as a value was a value
pub gave : {V : Type 0} (o : Option (Reply V)) (v : V) → ◌≡◌ {A = Option (MachineReply V)} (option_map reply_to_machine o) (Some (reply.Insert v)) → o ≡ Some (Gives v)
gave None v e = absurd (cc e)
gave (Some (Gives w)) v e = let same : w ≡ v = cc e in ap (λ x. Some (Gives x)) same
gave (Some Removes) v e = absurd (cc e)
gave (Some (Aborts w)) v e = absurd (cc e)
gave (Some (Decides true)) v e = absurd (cc e)
gave (Some (Decides false)) v e = absurd (cc e)

module _ {V : Type 0} where
  -- what was told before, and what was told since
  pub told_since : (q : Option ℕ) (asked more : List (Asked V)) → last_reply q more ≡ None → last_reply q (asked ++ more) ≡ last_reply q asked
  told_since q [] more none = none
  told_since q (a ∷ asked) more none = ap (λ (o : Option (MachineReply V)). if is_about a.about q then Some a.told else o) (told_since q asked more none)

  pub told_first : (q : Option ℕ) (asked more : List (Asked V)) → last_reply q asked ≡ None → last_reply q (asked ++ more) ≡ last_reply q more
  told_first q [] more none = refl
  told_first q (a ∷ asked) more none = by (is_about a.about q) refl (λ rest. told_first q asked more rest)
    where
      by : (z : Bool) → is_about a.about q ≡ z → (last_reply q asked ≡ None → last_reply q (asked ++ more) ≡ last_reply q more) → last_reply q ((a ∷ asked) ++ more) ≡ last_reply q more
      by true e further = absurd (let some : Some a.told ≡ None = ap (λ y. if y then Some a.told else last_reply q asked) (sym e) ∙ none in cc some)
      by false e further =
          let rest : last_reply q asked ≡ None = ap (λ y. if y then Some a.told else last_reply q asked) (sym e) ∙ none in
          ap (λ y. if y then Some a.told else last_reply q (asked ++ more)) e ∙ further rest

module _ (number : ℕ → ℕ) (stored : ℕ) (apart : (n o : ℕ) → n < stored → o < stored → number n ≡ number o → n ≡ o) where
  -- two questions are the same for the call where they are so at the moment
  same_test : (a r q k : Option ℕ) → IsSameQuestion number stored a r → IsSameQuestion number stored q k → is_about a q ≡ same_question k r
  same_test None None None None a q = refl
  same_test None None (Some o) (Some l) a q = refl
  same_test (Some n) (Some p) None None a q = refl
  same_test (Some n) (Some p) (Some o) (Some l) a q = elim (cases_eq n o) as (λ _. (n == o) ≡ (l == p)) [
    | inl e ↦ eq-eqb n o e ∙ sym (eq-eqb l p (sym q.1 ∙ ap number (sym e) ∙ a.1))
    | inr ne ↦ ne_eqb n o ne ∙ sym (ne_eqb l p (λ e. ne (apart n o a.0 q.0 (a.1 ∙ sym e ∙ sym q.1))))
  ]
  same_test None (Some p) q k a same = absurd a
  same_test (Some n) None q k a same = absurd a
  same_test None None None (Some l) a same = absurd same
  same_test None None (Some o) None a same = absurd same
  same_test (Some n) (Some p) None (Some l) a same = absurd same
  same_test (Some n) (Some p) (Some o) None a same = absurd same

  -- so the last reply to a question is the one that it was told last
  pub told_as : {V : Type 0} (q k : Option ℕ) → IsSameQuestion number stored q k → (asked : List (Asked V)) (replies : List (Option ℕ × Reply V)) → AreReplies number stored asked replies
      → last_reply q asked ≡ option_map reply_to_machine (reply_to k replies)
  told_as q k same [] [] are = refl
  told_as q k same [] (r ∷ replies) are = absurd are
  told_as q k same (a ∷ asked) [] are = absurd are
  told_as q k same (a ∷ asked) (r ∷ replies) are = by (same_question k r.0) refl (told_as q k same asked replies are.2)
    where
      test : is_about a.about q ≡ same_question k r.0
      test = same_test a.about r.0 q k are.0 same

      by : (z : Bool) → same_question k r.0 ≡ z → last_reply q asked ≡ option_map reply_to_machine (reply_to k replies) → last_reply q (a ∷ asked) ≡ option_map reply_to_machine (reply_to k (r ∷ replies))
      by true e rest =
          ap (λ y. if y then Some a.told else last_reply q asked) (test ∙ e) ∙ ap Some are.1
          ∙ sym (ap (λ y. option_map reply_to_machine (if y then Some r.1 else reply_to k replies)) e)
      by false e rest =
          ap (λ y. if y then Some a.told else last_reply q asked) (test ∙ e) ∙ rest
          ∙ sym (ap (λ y. option_map reply_to_machine (if y then Some r.1 else reply_to k replies)) e)
