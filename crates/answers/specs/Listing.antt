-- Sheets as they are printed: the one that 01 shows, two of its figures with all that stands on their sheets, and wrong ones.
--   Listing        the bytes of a file, the values of its case, what is printed for it, and things that might be printed and are wrong
--   Prints x       what is printed for the file is its sheet, and nothing else is
--   Never s ts     none of the texts ts is the sheet of the file s
--   AllPrint xs    every listing of xs prints what it says, and never what is wrong
--   squares m cs a   a case with p = 3, n = 2, the rows m, the candidates cs and the allowance a
--   eighteen, divided, proven   01's 18 bytes; P7 and P8 as files
--   listings       those
-- Assumes nothing.
use Rattle.std.specs.Prelude.{◌≡◌, List, [], ◌∷◌, ℕ}
use Rattle.std.specs.Prelude.{Option, None, Some}
use Prim.Native.String.{String}
use Rattle.meaning.specs.Ascii.{ascii}
use Rattle.meaning.specs.Case.{Case}
use Rattle.meaning.specs.Sheet.{IsSheet}

pub record Listing : Type 0 where
  pub file : List ℕ
  pub case : Case
  pub print : String
  pub wrong : List String

abbrev pub Prints : Listing → Type 0
Prints x = IsSheet x.file (ascii x.print) × ((t : List ℕ) → IsSheet x.file t → t ≡ ascii x.print)

abbrev pub Never : List ℕ → List String → Type 0
Never s [] = Unit {0}
Never s (t ∷ ts) = ¬ IsSheet s (ascii t) × Never s ts

abbrev pub AllPrint : List Listing → Type 0
AllPrint [] = Unit {0}
AllPrint (x ∷ xs) = (Prints x × Never x.file x.wrong) × AllPrint xs

abbrev pub squares : List (List ℕ) → List (List ℕ) → Option (ℕ × ℕ) → Case
squares m cs a = record { p = 3; n = 2; allowance = a; matrix = m; candidates = cs }

-- wrong: a whole polynomial called a divisor; the leading 1 left out; a stage without it; spent before taken; no newline at the end; a space more; a zero in
-- front of a number; a good file refused
abbrev pub eighteen : Listing
eighteen =
    record {
      file = 255 ∷ 70 ∷ 3 ∷ 2 ∷ 255 ∷ 82 ∷ 0 ∷ 1 ∷ 255 ∷ 82 ∷ 2 ∷ 0 ∷ 255 ∷ 67 ∷ 1 ∷ 0 ∷ 255 ∷ 69 ∷ [];
      case = squares ((0 ∷ 1 ∷ []) ∷ (2 ∷ 0 ∷ []) ∷ []) ((1 ∷ 0 ∷ []) ∷ []) None;
      print = "FIELD 3 2\nSTAND proved 1 2\nMINPOLY 1 0 1\nWITNESS none\nSTAGE 1 0 1\nCHAIN 1 0 1\nPERIOD 4\n";
      wrong =
          "FIELD 3 2\nSTAND proved 1 2\nDIVISOR 1 0 1\nWITNESS none\nSTAGE 1 0 1\nCHAIN 1 0 1\nPERIOD 4\n"
          ∷ "FIELD 3 2\nSTAND proved 1 2\nMINPOLY 1 0\nWITNESS none\nSTAGE 1 0 1\nCHAIN 1 0 1\nPERIOD 4\n"
          ∷ "FIELD 3 2\nSTAND proved 1 2\nMINPOLY 1 0 1\nWITNESS none\nSTAGE 1 0\nCHAIN 1 0 1\nPERIOD 4\n"
          ∷ "FIELD 3 2\nSTAND proved 2 1\nMINPOLY 1 0 1\nWITNESS none\nSTAGE 1 0 1\nCHAIN 1 0 1\nPERIOD 4\n"
          ∷ "FIELD 3 2\nSTAND proved 1 2\nMINPOLY 1 0 1\nWITNESS none\nSTAGE 1 0 1\nCHAIN 1 0 1\nPERIOD 4"
          ∷ "FIELD 3 2\nSTAND proved 1 2\nMINPOLY 1 0 1\nWITNESS none\nSTAGE 1 0 1\nCHAIN 1 0 1\nPERIOD 4 \n"
          ∷ "FIELD 3 2\nSTAND proved 1 2\nMINPOLY 1 0 1\nWITNESS none\nSTAGE 1 0 1\nCHAIN 1 0 1\nPERIOD 04\n"
          ∷ "REFUSED 18\n"
          ∷ [];
    }

-- [1 0 | 0 2], (1,0)(1,0), 9: short
-- wrong: the divisor called whole; the witness counted from 0; without its image; not named; zeros behind the leading 1; the stages in another order
abbrev pub divided : Listing
divided =
    record {
      file = 255 ∷ 70 ∷ 3 ∷ 2 ∷ 255 ∷ 65 ∷ 0 ∷ 9 ∷ 255 ∷ 82 ∷ 1 ∷ 0 ∷ 255 ∷ 82 ∷ 0 ∷ 2 ∷ 255 ∷ 67 ∷ 1 ∷ 0 ∷ 255 ∷ 67 ∷ 1 ∷ 0 ∷ 255 ∷ 69 ∷ [];
      case = squares ((1 ∷ 0 ∷ []) ∷ (0 ∷ 2 ∷ []) ∷ []) ((1 ∷ 0 ∷ []) ∷ (1 ∷ 0 ∷ []) ∷ []) (Some (0, 9));
      print = "FIELD 3 2\nSTAND short 2 2\nDIVISOR 2 1\nWITNESS 2 0 1\nSTAGE 2 1\nSTAGE 1 1\nCHAIN 2 0 1\nPERIOD 2\n";
      wrong =
          "FIELD 3 2\nSTAND short 2 2\nMINPOLY 2 1\nWITNESS 2 0 1\nSTAGE 2 1\nSTAGE 1 1\nCHAIN 2 0 1\nPERIOD 2\n"
          ∷ "FIELD 3 2\nSTAND short 2 2\nDIVISOR 2 1\nWITNESS 1 0 1\nSTAGE 2 1\nSTAGE 1 1\nCHAIN 2 0 1\nPERIOD 2\n"
          ∷ "FIELD 3 2\nSTAND short 2 2\nDIVISOR 2 1\nWITNESS 2\nSTAGE 2 1\nSTAGE 1 1\nCHAIN 2 0 1\nPERIOD 2\n"
          ∷ "FIELD 3 2\nSTAND short 2 2\nDIVISOR 2 1\nWITNESS none\nSTAGE 2 1\nSTAGE 1 1\nCHAIN 2 0 1\nPERIOD 2\n"
          ∷ "FIELD 3 2\nSTAND short 2 2\nDIVISOR 2 1 0\nWITNESS 2 0 1\nSTAGE 2 1\nSTAGE 1 1\nCHAIN 2 0 1\nPERIOD 2\n"
          ∷ "FIELD 3 2\nSTAND short 2 2\nDIVISOR 2 1\nWITNESS 2 0 1\nSTAGE 1 1\nSTAGE 2 1\nCHAIN 2 0 1\nPERIOD 2\n"
          ∷ [];
    }

-- the same, (1,0)(0,1), 9: proved
-- wrong: the highest coefficient first; the first row's order alone; a witness named; the period as none
abbrev pub proven : Listing
proven =
    record {
      file = 255 ∷ 70 ∷ 3 ∷ 2 ∷ 255 ∷ 65 ∷ 0 ∷ 9 ∷ 255 ∷ 82 ∷ 1 ∷ 0 ∷ 255 ∷ 82 ∷ 0 ∷ 2 ∷ 255 ∷ 67 ∷ 1 ∷ 0 ∷ 255 ∷ 67 ∷ 0 ∷ 1 ∷ 255 ∷ 69 ∷ [];
      case = squares ((1 ∷ 0 ∷ []) ∷ (0 ∷ 2 ∷ []) ∷ []) ((1 ∷ 0 ∷ []) ∷ (0 ∷ 1 ∷ []) ∷ []) (Some (0, 9));
      print = "FIELD 3 2\nSTAND proved 2 2\nMINPOLY 2 0 1\nWITNESS none\nSTAGE 2 1\nSTAGE 1 1\nCHAIN 2 0 1\nPERIOD 2\n";
      wrong =
          "FIELD 3 2\nSTAND proved 2 2\nMINPOLY 1 0 2\nWITNESS none\nSTAGE 2 1\nSTAGE 1 1\nCHAIN 2 0 1\nPERIOD 2\n"
          ∷ "FIELD 3 2\nSTAND proved 2 2\nMINPOLY 2 1\nWITNESS none\nSTAGE 2 1\nSTAGE 1 1\nCHAIN 2 0 1\nPERIOD 2\n"
          ∷ "FIELD 3 2\nSTAND proved 2 2\nMINPOLY 2 0 1\nWITNESS 1 0 0\nSTAGE 2 1\nSTAGE 1 1\nCHAIN 2 0 1\nPERIOD 2\n"
          ∷ "FIELD 3 2\nSTAND proved 2 2\nMINPOLY 2 0 1\nWITNESS none\nSTAGE 2 1\nSTAGE 1 1\nCHAIN 2 0 1\nPERIOD none\n"
          ∷ [];
    }

unfoldable pub listings : List Listing
listings = eighteen ∷ divided ∷ proven ∷ []
