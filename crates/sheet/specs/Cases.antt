-- The sheet's cases: who sends what, what comes back, what is written, and what the sender's log row holds then.
use Rattle.std.specs.Prelude.{ℕ, ◌-◌, ◌*◌, List, [], ◌∷◌, ◌++◌, replicate, take}
use Rattle.header.specs.Words.{word_bytes}
use Rattle.header.specs.declared.words.Header.{Header}
use Rattle.routing.specs.Call.{lent, Call, call_of}
use Rattle.switch.specs.Answer.{Answer, crossed, answered, dropped}
use Rattle.switch.specs.declared.answer.Sent.{Sent}
use Rattle.sheet.specs.Tables.{windows, numbers, logs}

-- words on the wire
abbrev pub wire : List ℕ → List ℕ
wire [] = []
wire (w ∷ ws) = word_bytes w ++ wire ws

-- a case of the sheet
pub record Case : Type 0 where
  pub sender : ℕ
  pub packet : List ℕ
  pub answer : Answer
  pub written : List ℕ
  pub row : List ℕ

-- four header words
abbrev pub words : ℕ → ℕ → ℕ → ℕ → Header
words a b c d = record { w0 = a; w1 = b; w2 = c; w3 = d }

-- the record of a header of four words, and of three
abbrev pub four : Header → ℕ → ℕ → Sent
four h q n = record { header = h; words = 4; partition = q; length = n }

abbrev pub three : Header → ℕ → ℕ → Sent
three h q n = record { header = h; words = 3; partition = q; length = n }

-- a row of empty words, as a case begins and as a crossing leaves it
abbrev pub empty : List ℕ
empty = replicate 6 0

-- all logs, where the row of p alone is not empty
abbrev pub logs_with : ℕ → List ℕ → List ℕ
logs_with p row = replicate (6 * p) 0 ++ (row ++ replicate (90 - 6 * p) 0)

-- A. Crosses to 0
abbrev pub case_a : Case
case_a = record {
  sender = 1;
  packet = wire (0x00000001 ∷ 0x0300050F ∷ 0x90000010 ∷ []);
  answer = crossed (four (words 0x20000001 0x0146050F 0x00000001 0x40000010) 0 16);
  written = wire (0x20000001 ∷ 0x0146050F ∷ 0x00000001 ∷ 0x40000010 ∷ []);
  row = empty;
}

-- B. Crosses to 1
abbrev pub case_b : Case
case_b = record {
  sender = 0;
  packet = wire (0x4A000001 ∷ 0x01000004 ∷ 0x01460510 ∷ 0x11223344 ∷ []);
  answer = crossed (three (words 0x4A000001 0x02000004 0x03000510 0) 1 16);
  written = wire (0x4A000001 ∷ 0x02000004 ∷ 0x03000510 ∷ 0x11223344 ∷ []);
  row = empty;
}

-- C. A past the window: 6, answered
abbrev pub case_c : Case
case_c = record {
  sender = 1;
  packet = wire (0x00000001 ∷ 0x0300050F ∷ 0x90100000 ∷ []);
  answer = answered 6 (three (words 0x0A000000 0x02002004 0x03000500 0) 1 12);
  written = wire (0x0A000000 ∷ 0x02002004 ∷ 0x03000500 ∷ []);
  row = 0x00100000 ∷ 20 ∷ 0x00000001 ∷ 0x0300050F ∷ 0x90100000 ∷ 0 ∷ [];
}

-- D. A at the window's last word: crosses
abbrev pub case_d : Case
case_d = record {
  sender = 1;
  packet = wire (0x00000001 ∷ 0x0300050F ∷ 0x900FFFFC ∷ []);
  answer = crossed (four (words 0x20000001 0x0146050F 0x00000001 0x400FFFFC) 0 16);
  written = wire (0x20000001 ∷ 0x0146050F ∷ 0x00000001 ∷ 0x400FFFFC ∷ []);
  row = empty;
}

-- E. D with Length 2: 35
abbrev pub case_e : Case
case_e = record {
  sender = 1;
  packet = wire (0x00000002 ∷ 0x030005FF ∷ 0x900FFFFC ∷ []);
  answer = dropped 35;
  written = [];
  row = 0x00040000 ∷ 18 ∷ 0x00000002 ∷ 0x030005FF ∷ 0x900FFFFC ∷ 0 ∷ [];
}

-- F. A with another requester: 7, answered
abbrev pub case_f : Case
case_f = record {
  sender = 1;
  packet = wire (0x00000001 ∷ 0x0301050F ∷ 0x90000010 ∷ []);
  answer = answered 7 (three (words 0x0A000000 0x02002004 0x03010510 0) 1 12);
  written = wire (0x0A000000 ∷ 0x02002004 ∷ 0x03010510 ∷ []);
  row = 0x00100000 ∷ 20 ∷ 0x00000001 ∷ 0x0301050F ∷ 0x90000010 ∷ 0 ∷ [];
}

-- G. A to an inactive partition: 8, answered
abbrev pub case_g : Case
case_g = record {
  sender = 1;
  packet = wire (0x00000001 ∷ 0x0300050F ∷ 0xA0000000 ∷ []);
  answer = answered 8 (three (words 0x0A000000 0x02002004 0x03000500 0) 1 12);
  written = wire (0x0A000000 ∷ 0x02002004 ∷ 0x03000500 ∷ []);
  row = 0x00100000 ∷ 20 ∷ 0x00000001 ∷ 0x0300050F ∷ 0xA0000000 ∷ 0 ∷ [];
}

-- H. A poisoned write: 5, dropped
abbrev pub case_h : Case
case_h = record {
  sender = 1;
  packet = wire (0x40004001 ∷ 0x0300050F ∷ 0x90000010 ∷ 0x11223344 ∷ []);
  answer = dropped 5;
  written = [];
  row = 0x00001000 ∷ 12 ∷ 0x40004001 ∷ 0x0300050F ∷ 0x90000010 ∷ 0 ∷ [];
}

-- I. B under a number that no entry holds: 9
abbrev pub case_i : Case
case_i = record {
  sender = 0;
  packet = wire (0x4A000001 ∷ 0x01000004 ∷ 0x01470510 ∷ 0x11223344 ∷ []);
  answer = dropped 9;
  written = [];
  row = 0x00010000 ∷ 16 ∷ 0x4A000001 ∷ 0x01000004 ∷ 0x01470510 ∷ 0 ∷ [];
}

-- J. B from 2, on 2's bus: 9, since 1 has no window to 2
abbrev pub case_j : Case
case_j = record {
  sender = 2;
  packet = wire (0x4A000001 ∷ 0x01000004 ∷ 0x02460510 ∷ 0x11223344 ∷ []);
  answer = dropped 9;
  written = [];
  row = 0x00010000 ∷ 16 ∷ 0x4A000001 ∷ 0x01000004 ∷ 0x02460510 ∷ 0 ∷ [];
}

-- K. Eleven bytes of A: 31
abbrev pub case_k : Case
case_k = record {
  sender = 1;
  packet = take 11 (wire (0x00000001 ∷ 0x0300050F ∷ 0x90000010 ∷ []));
  answer = dropped 31;
  written = [];
  row = 0x00040000 ∷ 18 ∷ 0x00000001 ∷ 0x0300050F ∷ 0x90000000 ∷ 0 ∷ [];
}

-- K. No bytes: 31, header words 0
abbrev pub case_k_none : Case
case_k_none = record {
  sender = 1;
  packet = [];
  answer = dropped 31;
  written = [];
  row = 0x00040000 ∷ 18 ∷ 0 ∷ 0 ∷ 0 ∷ 0 ∷ [];
}

-- M. A with first enables 0: crosses (R-1)
abbrev pub case_m : Case
case_m = record {
  sender = 1;
  packet = wire (0x00000001 ∷ 0x03000500 ∷ 0x90000010 ∷ []);
  answer = crossed (four (words 0x20000001 0x01460500 0x00000001 0x40000010) 0 16);
  written = wire (0x20000001 ∷ 0x01460500 ∷ 0x00000001 ∷ 0x40000010 ∷ []);
  row = empty;
}

-- N. A behind a 64-bit header: 36 (R-4)
abbrev pub case_n : Case
case_n = record {
  sender = 1;
  packet = wire (0x20000001 ∷ 0x0300050F ∷ 0x00000000 ∷ 0x90000010 ∷ []);
  answer = dropped 36;
  written = [];
  row = 0x00040000 ∷ 18 ∷ 0x20000001 ∷ 0x0300050F ∷ 0 ∷ 0x90000010 ∷ [];
}

-- the sheet's proved cases; L, which is of byte counts, stands beside them
abbrev pub cases : List Case
cases = case_a ∷ case_b ∷ case_c ∷ case_d ∷ case_e ∷ case_f ∷ case_g ∷ case_h ∷ case_i ∷ case_j ∷ case_k ∷ case_k_none ∷ case_m ∷ case_n ∷ []

-- a packet from p over the sheet's tables and empty logs, as a call over some Out
abbrev pub over_sheet : ℕ → List ℕ → List ℕ → Call
over_sheet p packet out = call_of p packet (lent windows numbers) logs out
