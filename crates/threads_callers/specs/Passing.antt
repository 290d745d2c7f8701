-- A seat that looks keys up under another one, which is within its section: it leans on that one for as long as it looks, and is lent the pair that it has found by what it knows then.
use Rattle.std.specs.Prelude.{◌≡◌, ℕ, Bool, true, ◌∷◌, Some, None}
use Rattle.threads_errands.specs.Given.ActsActs.{Wanted, Get}
use Rattle.papaya_raw.specs.declared.machines.progress.Progress.{Progress}
use Rattle.seize_seats.specs.Seats.Lendings.{IsValueBy}
use Rattle.seize_views.specs.declared.view.Fixed.{Fixed}
use Rattle.seize_views.specs.declared.view.Has.TheVariants.{Nothing as NoBlock}
use Rattle.seize_views.specs.declared.view.SlotView.TheVariants.{Rests, Inside}
use Rattle.seize_words.specs.OneMemory.Word.{block_in}
use Rattle.map_tables.specs.declared.node.Node.{Node}
use Rattle.map_tables.specs.declared.node.Node.TheVariants.{Pair}
use Rattle.threads_errands.specs.Given.ViewsBegun.{leaning, machine_for}
use Rattle.threads_errands.specs.Given.ViewsLooks.{shown_in}
use Rattle.threads_errands.specs.Given.ViewsRule.{Holds, section_of}
use Rattle.threads_errands.specs.Given.ViewsDeclared.view.Map.{Map}
use Rattle.threads_errands.specs.Given.ViewsDeclared.view.View.{View}
use Rattle.threads_errands.specs.Given.ViewsDeclared.view.SeatWork.TheVariants.{Nothing}
use Rattle.threads_errands.specs.Given.ErrandsLooking.{found_of}

module _ {K V S : Type 0} where
  -- it has nothing under way, holds no slot, and leans on nobody, nor on the owner of a map
  pub record IsBack (v : View K V S) : Type 0 where
    pub rests : v.slot ≡ Rests
    pub free : v.work ≡ Nothing
    pub lone : v.under ≡ None
    pub good : v.by ≡ None

  -- it leans on the seat of this number, which is within its section
  abbrev pub BeginsUnder : View K V S → ℕ → View K V S → View K V S → Type 0
  BeginsUnder v n u w = (t : ℕ) × (u.slot ≡ Inside t NoBlock) × (w ≡ leaning v (Some (n, t)))

  -- and on nobody any more
  abbrev pub LeansNoMore : View K V S → View K V S → Type 0
  LeansNoMore v w = w ≡ leaning v None

  -- A seat has begun one call more, within the section of that one: to do this with the map that that one knows. The call has told this last; and so the seat knew it
  -- when the call had ended, before it came back.
  pub record HasRunUnder (same : K → K → Bool) (hash : S → K → ℕ) (wanted : Wanted K V) (told : Progress (Node K V)) (u v w : View K V S) : Type 0 where
    pub map : Map S
    pub slot : ℕ
    pub knows : u.map ≡ Some map
    pub inside : section_of u.under u.slot ≡ Some slot
    pub calls : w.calls ≡ record { map = map.number; began = machine_for same hash map slot wanted; told = told } ∷ v.calls
    pub knew : View K V S
    pub knew_map : knew.map ≡ Some map
    pub knew_section : section_of knew.under knew.slot ≡ Some slot
    pub knew_calls : knew.calls ≡ w.calls

module _ {K V S : Type 0} (same : K → K → Bool) (hash : S → K → ℕ) (fixed : Fixed) where
  -- it is the pair of this word at which the one seat has looked, as it is in the memory while both know what they know
  abbrev pub IsLentBy : ℕ → View K V S → ℕ → View K V S → ℕ → K × V → Type 0
  IsLentBy i v n u word pair =
      (shown_in v.held (block_in word) ≡ Some (Pair pair.0 pair.1)) × IsValueBy (Holds same hash fixed) i v n u n u (block_in word) (Pair pair.0 pair.1)

  -- A seat has run a call under that one which has looked this key up, and the pair found, whose key equals it, was lent by what it knew then, when the call had ended.
  pub record HasFoundUnder (key : K) (n : ℕ) (u v w : View K V S) (pair : K × V) : Type 0 where
    pub word : ℕ
    pub ran : HasRunUnder same hash (Get key) (found_of (Some word)) u v w
    pub id : ℕ
    pub equal : same key pair.0 ≡ true
    pub lent : IsLentBy id ran.knew n u word pair
