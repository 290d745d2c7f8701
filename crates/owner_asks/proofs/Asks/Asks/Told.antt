-- A call that has asked, for one owner, was told what to do, and has come to its end: by the list of pairs, what it was told has been done.
use Rattle.std.specs.Prelude.{◌≡◌, ◌≢◌, ℕ, ◌==◌, Bool, true, false, List, [], ◌∷◌, Option, Some, None, ◌⊎◌, if◌then◌else◌}
use Rattle.std.proofs.Common.{sym, ap, subst, inl, inr}
use Rattle.papaya_raw.specs.declared.machines.answer.Missing.{Missing}
use Rattle.papaya_raw.specs.declared.machines.answer.Missing.TheVariants as missing
use Rattle.papaya_raw.specs.declared.machines.answer.There.{There}
use Rattle.papaya_raw.specs.declared.machines.answer.There.TheVariants as there
use Rattle.papaya_raw.specs.declared.machines.asking.MachineReply.{MachineReply}
use Rattle.papaya_raw.specs.declared.machines.asking.MachineReply.TheVariants as reply
use Rattle.papaya_raw.specs.declared.machines.asking.Takes.{Takes}
use Rattle.papaya_raw.specs.declared.machines.asking.Takes.TheVariants as takes
use Rattle.owner_calls.specs.Given.CallersAsked.{Asked, last_reply, LeavesPair, LeavesNone}
use Rattle.owner_asks.specs.Asks.Asking.{meant}

-- the only thing that it was told, about this
module _ {V : Type 0} (told : MachineReply V) where
  abbrev pub only : Option ℕ → List (Asked V)
  only about = record { about = about; told = told } ∷ []

  if_told : (b : Bool) (other : MachineReply V) → (if b then Some told else None) ≡ Some other → told ≡ other
  if_told true other e = cc e
  if_told false other e = absurd (cc e)

  told_pair : (n o : ℕ) (other : MachineReply V) → last_reply (Some o) (only (Some n)) ≡ Some other → told ≡ other
  told_pair n o other e = if_told (n == o) other e

  told_none : (other : MachineReply V) → last_reply None (only None) ≡ Some other → told ≡ other
  told_none other e = cc e

  means : (other : MachineReply V) → told ≡ other → meant other ≡ meant told
  means other e = ap meant (sym e)

  -- what it has stored, removed or left, it was told so
  pub stores_none : (v : V) → last_reply None (only None) ≡ Some (reply.Insert v) → reply.Insert v ≡ meant told
  stores_none v e = means (reply.Insert v) (told_none (reply.Insert v) e)

  pub stores_pair : (n o : ℕ) (v : V) → last_reply (Some o) (only (Some n)) ≡ Some (reply.Insert v) → reply.Insert v ≡ meant told
  stores_pair n o v e = means (reply.Insert v) (told_pair n o (reply.Insert v) e)

  pub removes_pair : (n o : ℕ) → (last_reply (Some o) (only (Some n)) ≡ Some reply.Remove) ⊎ (last_reply (Some o) (only (Some n)) ≡ Some reply.Yes) → reply.Remove ≡ meant told
  removes_pair n o (inl e) = means reply.Remove (told_pair n o reply.Remove e)
  removes_pair n o (inr e) = means reply.Yes (told_pair n o reply.Yes e)

  pub leaves_pair : (n o : ℕ) (t : There) (kind : Takes) → t ≡ there.Asks → LeavesPair (only (Some n)) t kind o → reply.Abort ≡ meant told
  leaves_pair n o t kind asks so = by kind (subst (λ (x : There). LeavesPair (only (Some n)) x kind o) asks so)
    where
      by : (kind : Takes) → LeavesPair (only (Some n)) there.Asks kind o → reply.Abort ≡ meant told
      by takes.Changes e = means reply.Abort (told_pair n o reply.Abort e)
      by takes.Choices e = means reply.No (told_pair n o reply.No e)
      by takes.Values e = absurd e
      by takes.Nothing e = absurd e

  pub leaves_none : (x : Missing) (kind : Takes) → x ≡ missing.Asks → LeavesNone (only None) x kind → reply.Abort ≡ meant told
  leaves_none x kind asks so = by kind (subst (λ (y : Missing). LeavesNone (only None) y kind) asks so)
    where
      by : (kind : Takes) → LeavesNone (only None) missing.Asks kind → reply.Abort ≡ meant told
      by takes.Changes e = means reply.Abort (told_none reply.Abort e)
      by takes.Choices e = absurd e
      by takes.Values e = absurd e
      by takes.Nothing e = absurd e

  -- it was not told to remove what is not there
  pub never_none : (n : ℕ) → last_reply None (only (Some n)) ≡ Some reply.Remove → ⊥
  never_none n e = cc e

  pub removes_none : last_reply None (only None) ≡ Some reply.Remove → reply.Remove ≡ meant told
  removes_none e = means reply.Remove (told_none reply.Remove e)

-- where it asks about a pair, and where about none
pub unasked_pair : (V : Type 0) (o : ℕ) (t : There) (kind : Takes) → LeavesPair {V = V} [] t kind o → t ≢ there.Asks
unasked_pair V o t kind so asks = by kind (subst (λ (x : There). LeavesPair {V = V} [] x kind o) asks so)
  where
    by : (kind : Takes) → LeavesPair {V = V} [] there.Asks kind o → ⊥
    by takes.Changes e = cc e
    by takes.Choices e = cc e
    by takes.Values e = e
    by takes.Nothing e = e

pub unasked_none : (V : Type 0) (x : Missing) (kind : Takes) → LeavesNone {V = V} [] x kind → x ≢ missing.Asks
unasked_none V x kind so asks = by kind (subst (λ (y : Missing). LeavesNone {V = V} [] y kind) asks so)
  where
    by : (kind : Takes) → LeavesNone {V = V} [] missing.Asks kind → ⊥
    by takes.Changes e = cc e
    by takes.Choices e = e
    by takes.Values e = e
    by takes.Nothing e = e
