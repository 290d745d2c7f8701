-- Entering a slot and giving one up, alone: one step each.
use Rattle.std.specs.Prelude.{Option}
use Rattle.std.proofs.Common.{◌≡◌, ℕ, ◌+◌, [], ◌∷◌, refl, sym}
use Rattle.std.proofs.lemmas.List.{append-nil}
use Rattle.seize.specs.Given.SeizeWordsMem.{Mem, Can, Took, value_at}
use Rattle.seize.specs.Given.SeizeWordsPlan.{May, Steps}
use Rattle.seize.specs.declared.states.TheConstants.{LAST_SLOT}
use Rattle.seize.specs.declared.advance.Advance.{Advance}
use Rattle.seize.specs.declared.rows.enter.Enter.{Enter}
use Rattle.seize.specs.declared.rows.enter.Unregister.{Unregister}
use Rattle.seize.specs.Enter.{enter_plan, unregister_plan}
use Rattle.seize.specs.Law.{Entered}
use Rattle.seize.specs.World.{World, Rests, Enters, Frees, Vacant, Outside, Inside, Changing, Enter', Unregister', Request, Begins, with_row, with_use, after_step}
use Rattle.seize.specs.Sequence.{Calls}
use Rattle.seize_model.specs.Alone.Alone.{History, IsHistory, at_rest, entered, given_up}
use Rattle.seize_rule.proofs.World.Rested.{Lone, begins_lone}
use Rattle.seize_rule.proofs.World.Kept.{row_may}
use Rattle.seize_model.proofs.Alone.Histories.Calls.{with_anew, rests_anew, called_history, history_rested}

module _ {T : Type 0} (defers : T → Option ℕ) (batch_size roots : ℕ) (m : Mem T) (h : History) (had : IsHistory defers batch_size roots m h) where
  -- a row that was begun may take its first step
  pub first_may : (request : Request) (v : World T) → Begins defers batch_size 0 request (at_rest defers m h) v → Lone defers (LAST_SLOT + 1) batch_size 0 v
  first_may request v b = begins_lone defers (LAST_SLOT + 1) batch_size refl 0 request (at_rest defers m h) v (history_rested defers batch_size roots m h had) b

  module _ (s : ℕ) (out : h.uses s ≡ Outside 0) where
    pub enter_may : May Can Took value_at m (enter_plan {T = T} (record { slot = s }))
    enter_may =
        let v = with_use (with_row (at_rest defers m h) 0 (Enters (record { slot = s }))) s Changing in
        row_may defers (LAST_SLOT + 1) batch_size refl v (first_may (Enter' s) v (out, refl)).good 0 (Enters (record { slot = s })) refl

    pub enter_history : (m2 : Mem T) (end : Enter × Advance Unit) → Steps Took value_at m (enter_plan (record { slot = s })) m2 end → IsHistory defers batch_size roots m2 (entered s h)
    enter_history m2 end st =
        let v = with_use (with_row (at_rest defers m h) 0 (Enters (record { slot = s }))) s Changing in
        let n = with_use (after_step v 0 m2 Rests (Entered s ∷ [])) s (Inside 0) in
        let e : at_rest defers m2 (entered s h) ≡ n =
        λ i. record { memory = m2; row = sym (rests_anew (Enters (record { slot = s }))) i; uses = sym (with_anew h.uses s Changing (Inside 0)) i; hand = h.hand; log = Entered s ∷ h.log } in
        called_history defers batch_size roots m m2 h (entered s h) had (Enter' s) (v, 1, refl, (out, refl), (n, (m2, end, st, refl), (refl, e))) refl

    pub unregister_may : May Can Took value_at m (unregister_plan {T = T} (record { slot = s }))
    unregister_may =
        let v = with_use (with_row (at_rest defers m h) 0 (Frees (record { slot = s }))) s Changing in
        row_may defers (LAST_SLOT + 1) batch_size refl v (first_may (Unregister' s) v (out, refl)).good 0 (Frees (record { slot = s })) refl

    pub unregister_calls : (m2 : Mem T) (end : Unregister × Advance Unit) → Steps Took value_at m (unregister_plan (record { slot = s })) m2 end
        → Calls defers batch_size 0 (Unregister' s) (at_rest defers m h) (at_rest defers m2 (given_up s h))
    unregister_calls m2 end st =
        let v = with_use (with_row (at_rest defers m h) 0 (Frees (record { slot = s }))) s Changing in
        let n = with_use (after_step v 0 m2 Rests []) s Vacant in
        let e : at_rest defers m2 (given_up s h) ≡ n =
        λ i. record { memory = m2; row = sym (rests_anew (Frees (record { slot = s }))) i; uses = sym (with_anew h.uses s Changing Vacant) i; hand = h.hand; log = h.log } in
        (v, 1, refl, (out, refl), (n, (m2, end, st, refl), (refl, e)))

    pub unregister_history : (m2 : Mem T) (end : Unregister × Advance Unit) → Steps Took value_at m (unregister_plan (record { slot = s })) m2 end → IsHistory defers batch_size roots m2 (given_up s h)
    unregister_history m2 end st = called_history defers batch_size roots m m2 h (given_up s h) had (Unregister' s) (unregister_calls m2 end st) (sym (append-nil h.before))
