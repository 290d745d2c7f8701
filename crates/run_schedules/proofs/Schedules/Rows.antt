-- The rows by which calls are judged, one after another, agree with the sequential specification of whole finite maps.
use Rattle.std.specs.Prelude.{option_map, if◌then◌else◌}
use Rattle.std.proofs.Common.{◌≡◌, ℕ, Bool, true, false, refl, sym, Option, Some, None}
use Rattle.run_schedules.specs.Runs.Sequential.{Contents, CallAnswer, Replies, Specifies, next_number}
use Rattle.run_schedules.specs.Runs.Sequential as calls
use Rattle.run_schedules.specs.declared.call.OneKey.{OneKey}
use Rattle.run_schedules.specs.declared.call.OneKey.TheVariants.{Get, GetKeyValue, ContainsKey, Insert, TryInsert, TryInsertWith, GetOrInsert, GetOrInsertWith, Update, UpdateOrInsert, UpdateOrInsertWith, Compute, Remove, RemoveEntry, RemoveIf}
use Rattle.run_schedules.specs.declared.call.Reply.{Reply}
use Rattle.run_schedules.specs.declared.call.Reply.TheVariants.{Gives, Removes, Aborts, Decides}
use Rattle.run_schedules.specs.Schedules.Sequential.{means, key_of, looked}
use Rattle.run_schedules.specs.Schedules.Rows.{reply_in, answer_in, RowsAgree, Agrees}

looked_in : {V : Type 0} (old : Option ℕ) → answer_in {V = V} (looked old) ≡ Some (calls.looked old)
looked_in None = refl
looked_in (Some p) = refl

module _ {K V : Type 0} (eq : K → K → Bool) (replies : Replies V V) (m : Contents K V) where
  -- what a removal makes of a class without a pair is nothing
  none_left : (k : K) → ((q : K) → eq k q ≡ true → m.at q ≡ m.at k) → m.at k ≡ None → (q : K) → m.at q ≡ (if eq k q then None else m.at q)
  none_left k same none q = by (eq k q) refl
    where
      by : (b : Bool) → eq k q ≡ b → m.at q ≡ (if b then None else m.at q)
      by true is = let at = same q is in cc (at, none)
      by false is = refl

  -- the row of a call, where the class has this pair or none
  abbrev Row : OneKey K V → Option (Reply V) → Type 0
  Row one reply =
      (old : Option ℕ) → m.at (key_of one) ≡ old → option_map reply_in reply ≡ replies old → Agrees eq one replies m (means one reply old (next_number m))

  tries : (k : K) (v : V) (reply : Option (Reply V)) → Row (TryInsert k v) reply
  tries k v reply None is told = (calls.Fresh (next_number m), refl, rw is ((refl, λ q. refl), refl))
  tries k v reply (Some p) is told = (calls.Occupied p v, refl, rw is ((refl, λ q. refl), refl))

  gets_or : (k : K) (v : V) (reply : Option (Reply V)) → Row (GetOrInsert k v) reply
  gets_or k v reply None is told = (calls.Fresh (next_number m), refl, rw is ((refl, λ q. refl), refl))
  gets_or k v reply (Some p) is told = (calls.There p, refl, rw is ((refl, λ q. refl), refl))

  tries_with : (k : K) (reply : Option (Reply V)) → Row (TryInsertWith k) reply
  tries_with k (Some (Gives v)) None is told = (calls.Fresh (next_number m), refl, rw is ((v, cc told, (refl, λ q. refl)), refl))
  tries_with k (Some Removes) None is told = tt
  tries_with k (Some (Aborts w)) None is told = tt
  tries_with k (Some (Decides b)) None is told = tt
  tries_with k None None is told = tt
  tries_with k reply (Some p) is told = (calls.Kept p, refl, rw is ((refl, λ q. refl), refl))

  gets_or_with : (k : K) (reply : Option (Reply V)) → Row (GetOrInsertWith k) reply
  gets_or_with k (Some (Gives v)) None is told = (calls.Fresh (next_number m), refl, rw is ((v, cc told, (refl, λ q. refl)), refl))
  gets_or_with k (Some Removes) None is told = tt
  gets_or_with k (Some (Aborts w)) None is told = tt
  gets_or_with k (Some (Decides b)) None is told = tt
  gets_or_with k None None is told = tt
  gets_or_with k reply (Some p) is told = (calls.There p, refl, rw is ((refl, λ q. refl), refl))

  updates : (k : K) (reply : Option (Reply V)) → Row (Update k) reply
  updates k reply None is told = (calls.Nothing, refl, rw is ((refl, λ q. refl), refl))
  updates k (Some (Gives v)) (Some p) is told = (calls.Fresh (next_number m), refl, rw is ((v, cc told, (refl, λ q. refl)), refl))
  updates k (Some Removes) (Some p) is told = tt
  updates k (Some (Aborts w)) (Some p) is told = tt
  updates k (Some (Decides b)) (Some p) is told = tt
  updates k None (Some p) is told = tt

  updates_or : (k : K) (v : V) (reply : Option (Reply V)) → Row (UpdateOrInsert k v) reply
  updates_or k v reply None is told = (calls.Fresh (next_number m), refl, (rw is (refl, λ q. refl), refl))
  updates_or k v (Some (Gives w)) (Some p) is told = (calls.Fresh (next_number m), refl, (rw is (w, cc told, (refl, λ q. refl)), refl))
  updates_or k v (Some Removes) (Some p) is told = tt
  updates_or k v (Some (Aborts w)) (Some p) is told = tt
  updates_or k v (Some (Decides b)) (Some p) is told = tt
  updates_or k v None (Some p) is told = tt

  updates_or_with : (k : K) (reply : Option (Reply V)) → Row (UpdateOrInsertWith k) reply
  updates_or_with k (Some (Gives v)) old is told = (calls.Fresh (next_number m), refl, ((v, cc (is, told), (refl, λ q. refl)), refl))
  updates_or_with k (Some Removes) old is told = tt
  updates_or_with k (Some (Aborts w)) old is told = tt
  updates_or_with k (Some (Decides b)) old is told = tt
  updates_or_with k None old is told = tt

  -- `compute`, by what the class has and the reply to that
  computes_as : (k : K) (old : Option ℕ) (reply : Option (calls.Reply V V)) (a : CallAnswer V V) (n : Contents K V)
      → m.at k ≡ old → reply ≡ replies old → calls.Computes eq k old reply m a n → Specifies eq (calls.Compute k) replies m a n
  computes_as k old reply a n is told h = rw is (rw (sym told) h)

  computes_right : (k : K) (reply : Option (Reply V)) → Row (Compute k) reply
  computes_right k (Some (Gives v)) None is told = (calls.Fresh (next_number m), refl, computes_as k None _ _ _ is told ((refl, λ q. refl), refl))
  computes_right k (Some (Gives v)) (Some p) is told =
      (calls.Updated p (next_number m), refl, computes_as k (Some p) _ _ _ is told ((refl, λ q. refl), refl))
  computes_right k (Some Removes) None is told = tt
  computes_right k (Some Removes) (Some p) is told = (calls.Removed p, refl, computes_as k (Some p) _ _ _ is told ((refl, λ q. refl), refl))
  computes_right k (Some (Aborts w)) None is told = (calls.Aborted w, refl, computes_as k None _ _ _ is told ((refl, λ q. refl), refl))
  computes_right k (Some (Aborts w)) (Some p) is told = (calls.Aborted w, refl, computes_as k (Some p) _ _ _ is told ((refl, λ q. refl), refl))
  computes_right k (Some (Decides b)) None is told = tt
  computes_right k (Some (Decides b)) (Some p) is told = tt
  computes_right k None None is told = tt
  computes_right k None (Some p) is told = tt

  removes_if : (k : K) (reply : Option (Reply V)) → Row (RemoveIf k) reply
  removes_if k reply None is told = (calls.Nothing, refl, rw is ((refl, λ q. refl), refl))
  removes_if k (Some (Decides true)) (Some p) is told = (calls.There p, refl, rw is (true, cc told, ((refl, λ q. refl), refl)))
  removes_if k (Some (Decides false)) (Some p) is told = (calls.Kept p, refl, rw is (false, cc told, ((refl, λ q. refl), refl)))
  removes_if k (Some (Gives v)) (Some p) is told = tt
  removes_if k (Some Removes) (Some p) is told = tt
  removes_if k (Some (Aborts w)) (Some p) is told = tt
  removes_if k None (Some p) is told = tt

  module _ (k : K) (same : (q : K) → eq k q ≡ true → m.at q ≡ m.at k) where
    removes : (reply : Option (Reply V)) → Row (Remove k) reply
    removes reply None is told = (calls.Nothing, refl, ((refl, none_left k same is), rw is refl))
    removes reply (Some p) is told = (calls.There p, refl, ((refl, λ q. refl), rw is refl))

    removes_entry : (reply : Option (Reply V)) → Row (RemoveEntry k) reply
    removes_entry reply None is told = (calls.Nothing, refl, ((refl, none_left k same is), rw is refl))
    removes_entry reply (Some p) is told = (calls.There p, refl, ((refl, λ q. refl), rw is refl))

-- each row agrees
pub rows_agree : {K V : Type 0} (eq : K → K → Bool) → RowsAgree K V eq
rows_agree eq (Get k) replies m reply same told = (calls.looked (m.at k), looked_in (m.at k), ((refl, λ q. refl), refl))
rows_agree eq (GetKeyValue k) replies m reply same told = (calls.looked (m.at k), looked_in (m.at k), ((refl, λ q. refl), refl))
rows_agree eq (ContainsKey k) replies m reply same told = (calls.looked (m.at k), looked_in (m.at k), ((refl, λ q. refl), refl))
rows_agree eq (Insert k v) replies m reply same told = (calls.looked (m.at k), looked_in (m.at k), ((refl, λ q. refl), refl))
rows_agree eq (TryInsert k v) replies m reply same told = tries eq replies m k v reply (m.at k) refl told
rows_agree eq (TryInsertWith k) replies m reply same told = tries_with eq replies m k reply (m.at k) refl told
rows_agree eq (GetOrInsert k v) replies m reply same told = gets_or eq replies m k v reply (m.at k) refl told
rows_agree eq (GetOrInsertWith k) replies m reply same told = gets_or_with eq replies m k reply (m.at k) refl told
rows_agree eq (Update k) replies m reply same told = updates eq replies m k reply (m.at k) refl told
rows_agree eq (UpdateOrInsert k v) replies m reply same told = updates_or eq replies m k v reply (m.at k) refl told
rows_agree eq (UpdateOrInsertWith k) replies m reply same told = updates_or_with eq replies m k reply (m.at k) refl told
rows_agree eq (Compute k) replies m reply same told = computes_right eq replies m k reply (m.at k) refl told
rows_agree eq (Remove k) replies m reply same told = removes eq replies m k same reply (m.at k) refl told
rows_agree eq (RemoveEntry k) replies m reply same told = removes_entry eq replies m k same reply (m.at k) refl told
rows_agree eq (RemoveIf k) replies m reply same told = removes_if eq replies m k reply (m.at k) refl told
