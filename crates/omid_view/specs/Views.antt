-- What the program writes for a history, by its command. A source had `left` left and has `rest`; a sink held `held` and holds
-- `now`. Where one does not tell its content, what is said of content says nothing.
use Rattle.std.specs.Prelude.{◌≡◌, ◌≢◌, ℕ, ◌+◌, ◌-◌, ◌≤◌, Bool, true, false, List, [], ◌∷◌, ◌++◌, ◌⊎◌, Option, IfSome, length, take, min, codes, decimal}
use Rattle.port_io.specs.Ports.{Gains, IsAtEnd}
use Rattle.history_book.specs.declared.item.Item.{Item}
use Rattle.history_json.specs.History.{AreItems, IsFirstBad}
use Rattle.history_signs.specs.declared.chosen.Chosen.{Chosen}
use Rattle.history_view.specs.declared.picture.Frame.{Frame}
use Rattle.history_signs.specs.declared.sign.Sign.{Sign}
use Rattle.history_signs.specs.Chosen.{chosen_in}
use Rattle.history_signs.specs.Earlier.{earlier_bars}
use Rattle.history_signs.specs.Lanes.{lanes_for}
use Rattle.history_signs.specs.Signs.{AreSigns}
use Rattle.history_view.specs.Page.{picture_text}
use Rattle.history_page.specs.Pages.{page_text}
use Rattle.line_reasons.specs.Reasons.{AddsReasonAt}
use Rattle.refusal_reasons.specs.Words.{explanations}
use Rattle.breach_reasons.specs.declared.finding.Finding.{Finding}
use Rattle.breach_reasons.specs.Breaches.{breach_text}
use Rattle.breach_reasons.specs.Concerned.{breach_items, ringed}
use Rattle.breach_reasons.specs.Findings.{IsFound, finding_line, finding_status}
use Rattle.omid_view.specs.declared.command.Command.{Command}
use Rattle.omid_view.specs.declared.command.Command.TheVariants.{Breach, Picture, Explain, Page}

-- ---- the words of a command
-- a picture's items have numbers, from 1 on
abbrev pub IsInRange : ℕ → ℕ → Type 0
IsInRange from to = (1 ≤ from) × (to ≤ 16777216) × (from ≤ to)

-- a picture has such items
abbrev pub IsSound : Command → Type 0
IsSound (Picture from to brief) = IsInRange from to
IsSound _ = Unit {0}

-- the word behind it that asks for a brief picture, or for serial order too
abbrev pub if_so : Bool → List ℕ → List (List ℕ)
if_so true word = word ∷ []
if_so false word = []

-- the picture of all items, of the first 2,000
abbrev pub IsWhole : Bool → List (List ℕ) → Type 0
IsWhole brief words = words ≡ codes "picture" ∷ if_so brief (codes "brief")

-- the picture of those from one number to another, in decimal with no zero before it
pub record IsPart (from to : ℕ) (brief : Bool) (words : List (List ℕ)) : Type 0 where
  pub named : words ≡ codes "picture" ∷ (if_so brief (codes "brief") ++ decimal from ∷ decimal to ∷ [])
  pub range : IsInRange from to

abbrev pub IsAnyPart : List (List ℕ) → Type 0
IsAnyPart words = (from : ℕ) × ((to : ℕ) × ((brief : Bool) × IsPart from to brief words))

abbrev pub IsBreach : Bool → List (List ℕ) → Type 0
IsBreach strict words = words ≡ codes "breach" ∷ if_so strict (codes "strict")

abbrev pub IsExplain : Bool → List (List ℕ) → Type 0
IsExplain strict words = words ≡ codes "explain" ∷ if_so strict (codes "strict")

abbrev pub IsPage : Bool → List (List ℕ) → Type 0
IsPage strict words = words ≡ codes "page" ∷ if_so strict (codes "strict")

abbrev pub Names : Command → List (List ℕ) → Type 0
Names (Picture from to brief) words = (IsWhole brief words × (from ≡ 1) × (to ≡ 2000)) ⊎ IsPart from to brief words
Names (Breach strict) words = IsBreach strict words
Names (Explain strict) words = IsExplain strict words
Names (Page strict) words = IsPage strict words

-- the words name a command that is built
abbrev pub IsKnown : List (List ℕ) → Type 0
IsKnown words = (command : Command) × Names command words

-- the command judges the history
abbrev pub Judges : Command → Type 0
Judges (Picture from to brief) = ⊥
Judges _ = Unit {0}

-- the words name one that does
abbrev pub IsJudging : List (List ℕ) → Type 0
IsJudging words = (strict : Bool) × (IsBreach strict words ⊎ IsExplain strict words ⊎ IsPage strict words)

-- by two words that are numbers
abbrev pub IsPictureFor : Bool → Command → List ℕ → List ℕ → Type 0
IsPictureFor brief (Picture from to kept) first last = (kept ≡ brief) × IsInRange from to × (first ≡ decimal from) × (last ≡ decimal to)
IsPictureFor brief _ first last = ⊥

-- ---- what a command makes of items, and the status with it
-- how many items a picture from one number to another is of: 2,000 at most
abbrev pub shown_count : ℕ → ℕ → List Item → ℕ
shown_count from to items = min (min (to + 1 - from) 2000) (length items - (from - 1))

-- where its first item stands, counted from 0; behind the last item where there is none of that number
abbrev pub first_place : ℕ → List Item → ℕ
first_place from items = min (from - 1) (length items)

abbrev pub part_frame : ℕ → ℕ → List Item → Frame
part_frame from count items = record { wide = false; first = from; last = from + count - 1; total = length items }

-- what a picture from one number on shows of so many items: all of them, or all but minor ones
abbrev pub part_items : ℕ → ℕ → Bool → List Item → List Chosen
part_items from count brief items = chosen_in brief items (first_place from items) count

-- The text is their picture: one sign for each, in order, and the bars that go on from the items before them. Bars end where an item
-- ends them, shown or not.
pub record IsPictureOf (from count : ℕ) (items : List Item) (chosen : List Chosen) (text : List ℕ) : Type 0 where
  pub signs : List Sign
  pub are : AreSigns (lanes_for chosen) [] chosen signs
  pub is : text ≡ picture_text (part_frame from count items) (codes "history") (lanes_for chosen)
      (earlier_bars (lanes_for chosen) chosen (first_place from items) items) signs

abbrev pub PicturesPart : ℕ → ℕ → Bool → List Item → List ℕ → Type 0
PicturesPart from count brief items text = IsPictureOf from count items (part_items from count brief items) text

-- where the picture of what was found is of: from its first item to its last
abbrev pub first_of : List Chosen → ℕ
first_of [] = 1
first_of (x ∷ xs) = x.number

unfoldable pub last_of : ℕ → List Chosen → ℕ
last_of before [] = before
last_of before (x ∷ xs) = last_of x.number xs

abbrev pub breach_frame : List Chosen → List Item → Frame
breach_frame chosen items = record { wide = true; first = first_of chosen; last = min (last_of (length items) chosen) (length items); total = length items }

-- of what was found, the picture of the items of the transactions concerned; the two items are ringed, and what was found stands above
pub record IsBreachOf (strict : Bool) (items : List Item) (found : Finding) (chosen : List Chosen) (text : List ℕ) : Type 0 where
  pub signs : List Sign
  pub are : AreSigns (lanes_for chosen) (ringed found) chosen signs
  pub is : text ≡ picture_text (breach_frame chosen items) (finding_line strict items found) (lanes_for chosen) [] signs

pub record PicturesBreach (strict : Bool) (items : List Item) (code : ℕ) (text : List ℕ) : Type 0 where
  pub found : Finding
  pub judged : IsFound strict items found
  pub status : finding_status found ≡ code
  pub is : IsBreachOf strict items found (breach_items items found) text

-- what is told of these items: what was found, and each refusal explained
abbrev pub told_of : Bool → List Item → Finding → List ℕ
told_of strict items found = breach_text strict items found ++ explanations items 0 items

-- the text tells what was found, and explains each refusal among these items
pub record Explains (strict : Bool) (items : List Item) (code : ℕ) (text : List ℕ) : Type 0 where
  pub found : Finding
  pub judged : IsFound strict items found
  pub status : finding_status found ≡ code
  pub is : text ≡ told_of strict items found

-- the text is the page of these items, with all bars and with what is told of them
pub record PagesHistory (strict : Bool) (items : List Item) (code : ℕ) (text : List ℕ) : Type 0 where
  pub found : Finding
  pub judged : IsFound strict items found
  pub status : finding_status found ≡ code
  pub is : text ≡ page_text items (chosen_in false items 0 (length items)) (told_of strict items found)

abbrev pub Makes : Command → List Item → ℕ → List ℕ → Type 0
Makes (Picture from to brief) items code text = (code ≡ 0) × PicturesPart from (shown_count from to items) brief items text
Makes (Breach strict) items code text = PicturesBreach strict items code text
Makes (Explain strict) items code text = Explains strict items code text
Makes (Page strict) items code text = PagesHistory strict items code text

-- ---- what is right to write for items
-- done, or what was explained is not isolated
abbrev pub IsEnd : ℕ → Type 0
IsEnd code = (code ≡ 0) ⊎ (code ≡ 7)

-- what the command makes of them went out whole, with its status
pub record ShownOf (command : Command) (items : List Item) (code : ℕ) (held now : Option (List ℕ)) : Type 0 where
  pub text : List ℕ
  pub made : Makes command items code text
  pub told : Gains held now text

-- the sink got a front of the text
abbrev pub GainsFront : Option (List ℕ) → Option (List ℕ) → List ℕ → Type 0
GainsFront held now text = (sent : ℕ) × Gains held now (take sent text)

-- a front of what the command makes of them went out
pub record ShownFrontOf (command : Command) (items : List Item) (held now : Option (List ℕ)) : Type 0 where
  pub text : List ℕ
  pub code : ℕ
  pub made : Makes command items code text
  pub told : GainsFront held now text

-- ---- what is right to write for the bytes
-- the bytes are items, and this is what the command makes of them
pub record IsView (command : Command) (bytes : List ℕ) (code : ℕ) (text : List ℕ) : Type 0 where
  pub items : List Item
  pub read : AreItems bytes items
  pub made : Makes command items code text

-- the line that names the first line that is no item
abbrev pub bad_line_text : ℕ → List ℕ
bad_line_text line = codes "history line " ++ decimal line ++ codes ": not an item\n"

-- behind it `explain` tells why it is none
abbrev pub TellsLine : Command → List ℕ → ℕ → List ℕ → Type 0
TellsLine (Explain strict) bytes line text = AddsReasonAt bytes line (bad_line_text line) text
TellsLine _ bytes line text = text ≡ bad_line_text line

pub record NamesBadLine (command : Command) (bytes : List ℕ) (code : ℕ) (text : List ℕ) : Type 0 where
  pub line : ℕ
  pub bad : IsFirstBad bytes line
  pub status : code ≡ 3
  pub is : TellsLine command bytes line text

abbrev pub IsRight : Command → List ℕ → ℕ → List ℕ → Type 0
IsRight command bytes code text = IsView command bytes code text ⊎ NamesBadLine command bytes code text

-- this line of the bytes was told of, or a front of that went out
pub record LineTold (command : Command) (bytes : List ℕ) (line : ℕ) (held now : Option (List ℕ)) : Type 0 where
  pub text : List ℕ
  pub is : TellsLine command bytes line text
  pub told : Gains held now text

pub record LineCut (command : Command) (bytes : List ℕ) (line : ℕ) (held now : Option (List ℕ)) : Type 0 where
  pub text : List ℕ
  pub is : TellsLine command bytes line text
  pub told : GainsFront held now text

-- a right text went out whole, with its status
pub record Shown (command : Command) (bytes : List ℕ) (code : ℕ) (held now : Option (List ℕ)) : Type 0 where
  pub text : List ℕ
  pub right : IsRight command bytes code text
  pub told : Gains held now text

-- a front of a right text went out
pub record ShownFront (command : Command) (bytes : List ℕ) (held now : Option (List ℕ)) : Type 0 where
  pub text : List ℕ
  pub code : ℕ
  pub right : IsRight command bytes code text
  pub told : GainsFront held now text

-- ---- status by status
abbrev pub IsTold : ℕ → Type 0
IsTold code = (code ≡ 0) ⊎ (code ≡ 3) ⊎ (code ≡ 7)

-- A history was read, and what the command makes of it was written; or its first bad line was named; or a front of either went
-- out; or nothing did.
pub record Views (command : Command) (code : ℕ) (left rest held now : Option (List ℕ)) : Type 0 where
  pub read : IsEnd code → IsAtEnd rest
  pub shown : IsTold code → IfSome left (λ bytes. Shown command bytes code held now)
  pub cut : code ≡ 5 → IfSome left (λ bytes. ShownFront command bytes held now)
  pub codes : IsTold code ⊎ (4 ≤ code) × (code ≤ 6)

abbrev pub usage_text : List ℕ
usage_text = codes "usage: omid_view picture [brief] [FROM TO] | breach [strict] | explain [strict] | page [strict]\n"

-- the usage line was written, or a front of it
pub record SaysUsage (code : ℕ) (held now : Option (List ℕ)) : Type 0 where
  pub usage : code ≡ 2 → Gains held now usage_text
  pub cut : code ≡ 5 → GainsFront held now usage_text
  pub codes : (code ≡ 2) ⊎ (code ≡ 5)
