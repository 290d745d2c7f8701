-- A call in its middle can be run on to its end.
use Rattle.std.specs.Prelude.{Option, Some, Ok, Err, map}
use Rattle.std.proofs.Common.{◌≡◌, ℕ, zero, suc, ◌<◌, true, List, [], ◌∷◌, ◌++◌, inl, inr, refl, arith, sym, subst}
use Rattle.std.proofs.lemmas.Bool.{cases_eq}
use Rattle.std.proofs.lemmas.List.{append-nil, append_assoc}
use Rattle.seize.specs.Given.SeizeWordsOp.{Op, Out, Load, Store, Swap, Add, Or, Exchange, Make, Take, Rewrite, Room, Found, Stored, Exchanged, Taken}
use Rattle.seize.specs.Given.SeizeWordsMem.{Mem, Can, Took, Gives, after, value_at}
use Rattle.seize.specs.Given.SeizeWordsPlan.{Plan, Then, Turn, Do, Now, Seeing, Sure, May, MaySee, Steps, Ends}
use Rattle.seize.specs.declared.rows.settle.Settled.{Settled}
use Rattle.seize.specs.declared.rows.settle.Settled.TheVariants.{Goes, Waits, Gave, Done}
use Rattle.seize_model.specs.declared.calls.WholeCall.{WholeCall}
use Rattle.seize_model.specs.declared.calls.WholeCall.TheVariants as call
use Rattle.seize.specs.Settle.{settle_plan}
use Rattle.seize.specs.Leave.{leave_plan}
use Rattle.seize.specs.World.{Request, MayStep}
use Rattle.seize_model.specs.Alone.Alone.{History, IsMidway, IsEnded, CallSteps, given_back, row_of}
use Rattle.seize_rule.proofs.Words.Kept.{IsQuiet, IsQuietPlan, settle_quiet}
use Rattle.seize_model.proofs.Ends.Settling.Most.{is_going}
use Rattle.seize_rule.proofs.Rows.LeavesTold.{leave_quiet}
use Rattle.seize_model.proofs.Alone.Whole.Steps.{call_may, call_told}
use Rattle.seize_model.proofs.Alone.Whole.Ends.{call_to_go, call_falls}
use Rattle.seize.proofs.Given.General.{some_there as some_of}

-- a step that may be taken comes to something

module _ {T : Type 0} where
  sees_on : {R : Type 0} (shown : ℕ → Option T) (rest : Then T R) → MaySee shown rest → (end : R) × Ends shown rest end
  sees_on shown (Now r) may = (r, refl)
  sees_on shown (Seeing block rest) may = let v = some_of (shown block) may.0 in let k = sees_on shown (rest v.0) (may.1 v.0 v.1) in (k.0, (v.0, v.1, k.1))
  sees_on shown (Sure fact rest) may = sees_on shown rest may.1

  gives_on : (m : Mem T) (op : Op T) → IsQuiet op → Can m op → (out : Out T) × Gives m op out
  gives_on m (Load at) q can = let w = some_of _ can in (Found w.0, w.1)
  gives_on m (Store at v) q can = (Stored, tt)
  gives_on m (Swap at v) q can = let w = some_of _ can in (Found w.0, w.1)
  gives_on m (Add at v) q can = let w = some_of _ can in (Found w.0, w.1)
  gives_on m (Or at v) q can = let w = some_of _ can in (Found w.0, w.1)
  gives_on m (Exchange at old new) q can =
      let w = some_of _ can in
      (elim (cases_eq w.0 old) as (λ _. (out : Out T) × Gives m (Exchange at old new) out) [
        | inl same ↦ (Exchanged (Ok w.0), (w.1, same))
        | inr other ↦ (Exchanged (Err w.0), (w.1, other))
      ])
  gives_on m (Take b) q can = let v = some_of _ can in (Taken v.0, v.1)
  gives_on m (Make value words) q can = absurd q
  gives_on m (Rewrite b new) q can = absurd q
  gives_on m (Room bucket) q can = absurd q

  pub steps_on : {R : Type 0} (m : Mem T) (plan : Plan T R) → IsQuietPlan plan → May Can Took value_at m plan → (m2 : Mem T) × (end : R) × Steps Took value_at m plan m2 end
  steps_on m (Turn rest) q may = let k = sees_on (value_at m) rest may in (m, k.0, (refl, k.1))
  steps_on m (Do op rest) q may =
      let g = gives_on m op q may.0 in
      let n = after m op g.0 in
      let k = sees_on (value_at n) (rest g.0) (may.1 g.0 n (g.1, refl)) in
      (n, k.0, (g.0, (g.1, refl), k.1))

  call_steps_on : (defers : T → Option ℕ) (m : Mem T) (c : WholeCall) → MayStep defers (row_of c) m → (m2 : Mem T) × (d : WholeCall) × (p : Settled T) × CallSteps defers m c m2 d p
  call_steps_on defers m (call.Settles c) may = let k = steps_on m (settle_plan defers c) (settle_quiet defers c c.stands) may in (k.0, call.Settles k.1.0, k.1.1, k.2)
  call_steps_on defers m (call.Leaves c) may = let k = steps_on m (leave_plan defers c) (leave_quiet defers m m c (c, Done) c.stands) may in (k.0, call.Leaves k.1.0, k.1.1, k.2)

module _ {T : Type 0} (defers : T → Option ℕ) (batch_size roots : ℕ) (m : Mem T) (h : History) (request : Request) where
  -- it ends with these values, and more behind them
  abbrev EndsWith : List T → Type 0
  EndsWith given = (more : List T) × (m2 : Mem T) × IsEnded defers batch_size roots m h request (given ++ more) m2

  one_more : (given : List T) (value : T) → EndsWith (given ++ value ∷ []) → EndsWith given
  one_more given value e =
      (value ∷ e.0, e.1, subst (λ (l : List T). IsEnded defers batch_size roots m h request l e.1) (append_assoc given (value ∷ []) e.0) e.2)

  -- what it comes to after a step
  ends_after : (k : ℕ) (c : WholeCall) (m2 : Mem T) (given : List T) → IsMidway defers batch_size roots m h request (row_of c) m2 given → call_to_go defers m2 c < suc k
      → ((c : WholeCall) (m2 : Mem T) (given : List T) → IsMidway defers batch_size roots m h request (row_of c) m2 given → call_to_go defers m2 c < k → EndsWith given)
      → (m3 : Mem T) (d : WholeCall) (p : Settled T) → CallSteps defers m2 c m3 d p → EndsWith given
  ends_after k c m2 given mid less further m3 d p st = by p st
    where
      fewer : (p : Settled T) → is_going p ≡ true → CallSteps defers m2 c m3 d p → call_to_go defers m3 d < k
      fewer p going st = let f = call_falls defers batch_size roots m h request m2 given m3 c d p mid going st in less_by f less
        where
          less_by : call_to_go defers m3 d < call_to_go defers m2 c → call_to_go defers m2 c < suc k → call_to_go defers m3 d < k
          less_by a b = omega (arith, a, b)

      by : (p : Settled T) → CallSteps defers m2 c m3 d p → EndsWith given
      by Goes st = further d m3 given (call_told defers batch_size roots m h request m2 given m3 c d Goes mid st) (fewer Goes refl st)
      by Waits st = further d m3 given (call_told defers batch_size roots m h request m2 given m3 c d Waits mid st) (fewer Waits refl st)
      by (Gave value) st =
          one_more given value
          (further d m3 (given ++ value ∷ []) (call_told defers batch_size roots m h request m2 given m3 c d (Gave value) mid st) (fewer (Gave value) refl st))
      by Done st =
          ([], m3, subst (λ (l : List T). IsEnded defers batch_size roots m h request l m3) (sym (append-nil given)) (call_told defers batch_size roots m h request m2 given m3 c d Done mid st))

  none_less : (a : ℕ) → a < zero → ⊥
  none_less a l = omega (arith, l)

  ends_from : (k : ℕ) (c : WholeCall) (m2 : Mem T) (given : List T) → IsMidway defers batch_size roots m h request (row_of c) m2 given → call_to_go defers m2 c < k → EndsWith given
  ends_from zero c m2 given mid less = absurd (none_less (call_to_go defers m2 c) less)
  ends_from (suc k) c m2 given mid less =
      let s = call_steps_on defers m2 c (call_may defers batch_size roots m h request (row_of c) m2 given mid) in
      ends_after k c m2 given mid less (λ c m2 given mid less. ends_from k c m2 given mid less) s.0 s.1 s.2 s.3

  one_less : (a : ℕ) → a < suc a
  one_less a = omega arith

  pub ends_with : (c : WholeCall) (m2 : Mem T) (given : List T) → IsMidway defers batch_size roots m h request (row_of c) m2 given
      → (more : List T) × (map (value_at m) (given_back batch_size request h) ≡ map Some (given ++ more))
  ends_with c m2 given mid = let e = ends_from (suc (call_to_go defers m2 c)) c m2 given mid (one_less (call_to_go defers m2 c)) in (e.0, e.2.3)
