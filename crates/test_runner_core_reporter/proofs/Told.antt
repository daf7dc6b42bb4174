-- What is reported in a row.
use Rattle.std.proofs.Common.{◌≡◌, ℕ, List, [], ◌∷◌, ◌++◌, Option, Some, None, Result, Ok, Err, take, drop, refl, sym, ap, ◌∙◌, subst, append_assoc, append-nil}
use Rattle.std.specs.Result.{IsErr}
use Rattle.std.specs.Io.KnownBytes.{Appends}
use Rattle.std.proofs.lemmas.List.{take-append-drop}
use Rattle.test_runner_core_reporter.specs.Parts.{Part, IsPart, IsTextOf}
use Rattle.test_runner_core_reporter.specs.Writes.{MovesOn, WritesParts, WritesAll, WritesPrefix}

-- nothing is taken by no call
pub appends_none : (before : Option (List ℕ)) → Appends before before []
appends_none None = tt
appends_none (Some bytes) = sym (append-nil bytes)

pub appends_then : (before middle after : Option (List ℕ)) (one other : List ℕ) → Appends before middle one → Appends middle after other → Appends before after (one ++ other)
appends_then None middle after one other first second = tt
appends_then (Some bytes) None after one other first second = absurd first
appends_then (Some bytes) (Some more) None one other first second = absurd second
appends_then (Some bytes) (Some more) (Some most) one other first second =
    second ∙ ap (λ (t : List ℕ). t ++ other) first ∙ append_assoc bytes one other

-- the texts of parts in a row
pub text_then : (parts more : List Part) (one other : List ℕ) → IsTextOf parts one → IsTextOf more other → IsTextOf (parts ++ more) (one ++ other)
text_then [] more one other first second = subst (λ (t : List ℕ). IsTextOf more (t ++ other)) (sym first) second
text_then (part ∷ parts) more one other first second =
    (first.0, (first.1.0 ++ other, (first.1.1.0, text_then parts more first.1.0 other first.1.1.1 second, ap (λ (t : List ℕ). t ++ other) first.1.1.2 ∙ append_assoc first.0 first.1.0 other)))

pub moves_then : (before middle after : Option (List ℕ)) (waited mid waits one other : List ℕ) → MovesOn before waited middle mid one → MovesOn middle mid after waits other → MovesOn before waited after waits (one ++ other)
moves_then before middle after waited mid waits one other first second =
    record {
      written = first.written ++ second.written;
      taken = appends_then before middle after first.written second.written first.taken second.taken;
      whole =
          append_assoc first.written second.written waits
          ∙ ap (λ (t : List ℕ). first.written ++ t) second.whole
          ∙ sym (append_assoc first.written mid other)
          ∙ ap (λ (t : List ℕ). t ++ other) first.whole
          ∙ append_assoc waited one other;
    }

-- nothing was reported
pub moves_none : (before : Option (List ℕ)) (waits : List ℕ) → MovesOn before waits before waits []
moves_none before waits = record { written = []; taken = appends_none before; whole = sym (append-nil waits) }

pub all_none : (before : Option (List ℕ)) (waits : List ℕ) → WritesAll [] before waits before waits
all_none before waits = record { told = []; text = refl; moved = moves_none before waits }

-- parts that are reported behind others
pub all_then : (parts more : List Part) (before middle after : Option (List ℕ)) (waited mid waits : List ℕ)
    → WritesAll parts before waited middle mid → WritesAll more middle mid after waits → WritesAll (parts ++ more) before waited after waits
all_then parts more before middle after waited mid waits first second =
    record {
      told = first.told ++ second.told;
      text = text_then parts more first.told second.told first.text second.text;
      moved = moves_then before middle after waited mid waits first.told second.told first.moved second.moved;
    }

pub front_then : (parts more : List Part) (before middle after : Option (List ℕ)) (waited mid : List ℕ)
    → WritesAll parts before waited middle mid → WritesPrefix more middle mid after → WritesPrefix (parts ++ more) before waited after
front_then parts more before middle after waited mid first second =
    record {
      front = parts ++ second.front;
      rest = second.rest;
      whole = ap (λ (t : List Part). parts ++ t) second.whole ∙ sym (append_assoc parts second.front second.rest);
      told = first.told ++ second.told;
      text = text_then parts second.front first.told second.told first.text second.text;
      lost = second.lost;
      moved = moves_then before middle after waited mid second.lost first.told second.told first.moved second.moved;
    }

pub tells_then : {T E : Type 0} (result : Result T E) (parts more : List Part) (before middle after : Option (List ℕ)) (waited mid waits : List ℕ)
    → WritesAll parts before waited middle mid → WritesParts result more middle mid after waits → WritesParts result (parts ++ more) before waited after waits
tells_then (Ok done) parts more before middle after waited mid waits first second = all_then parts more before middle after waited mid waits first second
tells_then (Err fault) parts more before middle after waited mid waits first second = front_then parts more before middle after waited mid first second

-- where parts fail to be reported, so do they with others behind them
pub front_more : (parts more : List Part) (before after : Option (List ℕ)) (waited : List ℕ) → WritesPrefix parts before waited after → WritesPrefix (parts ++ more) before waited after
front_more parts more before after waited failed =
    record {
      front = failed.front;
      rest = failed.rest ++ more;
      whole = ap (λ (t : List Part). t ++ more) failed.whole ∙ append_assoc failed.front failed.rest more;
      told = failed.told;
      text = failed.text;
      lost = failed.lost;
      moved = failed.moved;
    }

-- where nothing was reported
pub front_none : (parts : List Part) (before : Option (List ℕ)) (waited : List ℕ) → WritesPrefix parts before waited before
front_none parts before waited =
    record { front = []; rest = parts; whole = refl; told = []; text = refl; lost = waited; moved = moves_none before waited }

-- what an exit by `?` answers
pub fails : {T E : Type 0} (result : Result T E) (parts : List Part) (before after : Option (List ℕ)) (waited waits : List ℕ) → IsErr result
    → WritesPrefix parts before waited after → WritesParts result parts before waited after waits
fails (Ok value) parts before after waited waits is front = absurd (cc)
fails (Err fault) parts before after waited waits is front = front

-- a text that is put behind what waits is reported
pub pushed : (parts : List Part) (before : Option (List ℕ)) (waited told waits : List ℕ) → IsTextOf parts told → waits ≡ waited ++ told → WritesAll parts before waited before waits
pushed parts before waited told waits text grown = record { told = told; text = text; moved = record { written = []; taken = appends_none before; whole = grown } }

pub then_nothing : {T E : Type 0} (result : Result T E) (parts : List Part) (before middle after : Option (List ℕ)) (waited mid waits : List ℕ)
    → WritesAll parts before waited middle mid → WritesParts result [] middle mid after waits → WritesParts result parts before waited after waits
then_nothing result parts before middle after waited mid waits first second =
    subst (λ (p : List Part). WritesParts result p before waited after waits) (append-nil parts) (tells_then result parts [] before middle after waited mid waits first second)

-- a text of one part
pub one_text : (part : Part) (told : List ℕ) → IsPart part told → IsTextOf (part ∷ []) told
one_text part told is = (told, ([], (is, refl, sym (append-nil told))))

-- a prefix of what waited is written
pub wrote_front : (before after : Option (List ℕ)) (waited : List ℕ) (count : ℕ) → Appends before after (take count waited) → WritesPrefix [] before waited after
wrote_front before after waited count taken =
    record {
      front = [];
      rest = [];
      whole = refl;
      told = [];
      text = refl;
      lost = drop count waited;
      moved = record { written = take count waited; taken = taken; whole = take-append-drop count waited ∙ sym (append-nil waited) };
    }

-- what stays true while parts are reported one after another
pub record HasWritten (parts : List Part) (before : Option (List ℕ)) (waited : List ℕ) (old_failures : ℕ) (now : Option (List ℕ)) (waits : List ℕ) (failures : ℕ) : Type 0 where
  pub told : WritesAll parts before waited now waits
  pub unfailed : failures ≡ old_failures
