-- Reading a packet: the packet, or the first rule that it breaks, in the paper's order.
use Rattle.std.specs.Prelude.{ℕ, ◌+◌, ◌*◌, ◌%◌, ◌^◌, List, Bool, not, ◌&&◌, ◌||◌, length, eqb, ltb, Result, Ok, Err}
use Rattle.ground.specs.Pick.{pick}
use Rattle.header.specs.Kind.{is_completion, is_carried, has_four_words}
use Rattle.header.specs.Words.{header_of}
use Rattle.header.specs.Fields.{kind, has_digest, address_type, dwords, total_bytes, last_enables, first_enables, address, high_word}
use Rattle.header.specs.declared.words.Header.{Header}
use Rattle.tlp.specs.declared.form.Rule.{Rule}
use Rattle.tlp.specs.declared.form.Rule.TheVariants.{TooShort, NotCarried, WrongLength, Enables, Contiguity, PageCrossing, ZeroHighWord}
use Rattle.tlp.specs.declared.form.Packet.{Packet}
use Rattle.tlp.specs.declared.form.Packet.TheVariants.{Request, Completion}

-- "fewer than 12 bytes"
abbrev pub too_short : ℕ → Bool
too_short n = ltb n 12

-- "another kind; TD set; AT not 0"
abbrev pub not_carried : Header → Bool
not_carried h = not (is_carried (kind h)) || has_digest h || not (eqb (address_type h) 0)

-- "header or data length wrong": longer is as wrong as shorter
abbrev pub wrong_length : ℕ → Header → Bool
wrong_length n h = not (eqb n (total_bytes h))

-- enables: at "Length 1", last 0, and first may be 0 as well (R-1); at "Length above 1", neither 0
abbrev pub enables_broken : Header → Bool
enables_broken h =
    pick (eqb (dwords h) 1)
    (not (eqb (last_enables h) 0))
    (eqb (first_enables h) 0 || eqb (last_enables h) 0)

-- the first enables have no gap up to the next dword: "1111, 1110, 1100, 1000"
abbrev pub reaches_up : ℕ → Bool
reaches_up e = eqb e 0b1111 || eqb e 0b1110 || eqb e 0b1100 || eqb e 0b1000

-- the last enables have no gap from the dword before: "0001, 0011, 0111, 1111"
abbrev pub reaches_down : ℕ → Bool
reaches_down e = eqb e 0b0001 || eqb e 0b0011 || eqb e 0b0111 || eqb e 0b1111

-- gaps are allowed at Length 1, and "at Length 2 with address a multiple of 8"
abbrev pub gaps_allowed : Header → Bool
gaps_allowed h = eqb (dwords h) 1 || (eqb (dwords h) 2 && eqb (address h % 2 ^ 3) 0)

-- contiguity: a gap in the first or the last dword where none is allowed
abbrev pub contiguity_broken : Header → Bool
contiguity_broken h = not (gaps_allowed h) && not (reaches_up (first_enables h) && reaches_down (last_enables h))

-- a page, 4 KiB
abbrev pub page : ℕ
page = 2 ^ 12

-- 4 KiB crossing: "(address mod 4096) + 4 × Length" is above 4,096
abbrev pub crosses_page : Header → Bool
crosses_page h = ltb page (address h % page + 4 * dwords h)

-- zero high word: "a 64-bit header" whose high word is 0
abbrev pub zero_high_word : Header → Bool
zero_high_word h = has_four_words (kind h) && eqb (high_word h) 0

-- "Request form": the request, or the first rule broken
unfoldable pub request_form : Header → Result Packet Rule
request_form h =
    pick (enables_broken h) (Err Enables)
    (pick (contiguity_broken h) (Err Contiguity)
    (pick (crosses_page h) (Err PageCrossing)
    (pick (zero_high_word h) (Err ZeroHighWord)
    (Ok (Request h)))))

-- a packet of n bytes with these header words
unfoldable pub form_of : ℕ → Header → Result Packet Rule
form_of n h =
    pick (too_short n) (Err TooShort)
    (pick (not_carried h) (Err NotCarried)
    (pick (wrong_length n h) (Err WrongLength)
    (pick (is_completion (kind h)) (Ok (Completion h))
    (request_form h))))

-- reading a packet
abbrev pub packet_of : List ℕ → Result Packet Rule
packet_of s = form_of (length s) (header_of s)

-- the list's refusal number of each rule: R-4, "31 to 36 replace 3 in that order", and 4 for "not carried"
abbrev pub rule_number : Rule → ℕ
rule_number TooShort = 31
rule_number NotCarried = 4
rule_number WrongLength = 32
rule_number Enables = 33
rule_number Contiguity = 34
rule_number PageCrossing = 35
rule_number ZeroHighWord = 36

-- the refusal number of what was read; 0, which is no refusal, of a packet that breaks no rule
abbrev pub packet_number : Result Packet Rule → ℕ
packet_number (Ok packet) = 0
packet_number (Err r) = rule_number r
