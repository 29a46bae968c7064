-- Records handed out, and the case that they begin.
--   handed_starts   with the next record they begin a well-formed case
--   handed_all      at the end of a case they come to its values
-- Assumes nothing.
use mathlib.Core.Path.{◌≡◌, sym, ap, subst, ◌∙◌}
use mathlib.Core.Logic.{⊎_elim}
use mathlib.Core.List.{List, ◌∷◌, ◌++◌}
use Prim.Native.Nat.{ℕ}
use lib.ListN.{length, take}
use Rattle.meaning.specs.Case.{Record, flat, records, case_bytes}
use Rattle.meaning.proofs.Flat.{front_whole}
use Rattle.reader.specs.Step.{NextRecord, Ended, Handed}
use Rattle.reader.proofs.Stepping.{next-passed}
use Rattle.reader.proofs.Steps.{handed_length, handed_compare, handed_case}
use Rattle.casefile.specs.Gathered.{gathered}
use Rattle.casefile.proofs.Gathered.{gathered_case, Starts}

pub handed_starts : {s : List ℕ} {xs : List Record} {at : ℕ} {x : Record} → Handed s xs at → NextRecord s at x → Starts xs x
handed_starts {s} {xs} {at} {x} H N =
    let us : List Record = N.passed in
    let size : length (flat us) ≡ length (flat xs) = sym N.begins ∙ handed_length H in
    let same : us ≡ xs =
    ⊎_elim (λ l. front_whole xs l.0 l.1 size) (λ l. sym (front_whole us l.0 l.1 (sym size)))
    (handed_compare us (x ∷ N.to_come) H N.well_formed N.listed (subst (λ j. take j s ≡ flat us) N.begins (next-passed N))) in
    record { case = N.case; well_formed = N.well_formed; to_come = N.to_come; listed = N.listed ∙ ap (λ l. l ++ (x ∷ N.to_come)) same }

pub handed_all : {s : List ℕ} {xs : List Record} {at : ℕ} → Handed s xs at → (E : Ended s at) → gathered xs ≡ E.case
unfolding case_bytes
handed_all {s} {xs} H E =
    let b = handed_case H E.is in
    let size : length (flat (records E.case)) ≡ length (flat xs) = ap length (sym E.is.whole) ∙ sym E.length_of ∙ b.2 in
    ap gathered (sym (front_whole xs b.0 b.1 size)) ∙ gathered_case E.case
