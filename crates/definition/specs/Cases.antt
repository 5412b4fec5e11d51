-- Answers to a dozen files, events and error records whole, of a copy of the Rust that keeps empty ERROR nodes (decision 1). But for these nodes they are
-- the Rust's own, which is run (compare/, `run cases`). tools/cases.py writes this file from the listings in compare/cases.
use Rattle.std.specs.Prelude.{ℕ, List, [], ◌∷◌, Bool, true, ◌&&◌}
use Rattle.kinds.specs.Kinds as k
use Rattle.definition.specs.Run.{base}
use Rattle.definition.specs.Answer.{after, filled}
use Rattle.definition.specs.Table.{same, Case, desk, agrees}

-- a case, and its events
abbrev pub Outside : Type 0
Outside = Case × List ℕ

abbrev pub outside : Outside → Bool
outside c = let a = after base (desk c.0 1024 64) in agrees c.0 a && same a.events (filled c.1 a.events)

abbrev pub each : List Outside → Bool
each [] = true
each (c ∷ cs) = outside c && each cs

abbrev whole : Outside
whole = (
  record {
    text = "rule a{condition:true}";
    ids = k.RULE_KW ∷ k.WHITESPACE ∷ k.IDENT ∷ k.L_BRACE ∷ k.CONDITION_KW ∷ k.COLON ∷ k.TRUE_KW ∷ k.R_BRACE ∷ [];
    ends = 4 ∷ 5 ∷ 6 ∷ 7 ∷ 16 ∷ 17 ∷ 21 ∷ 22 ∷ [];
    fuel = 5;
    outcome = 0;
    covered = 8;
    left = 0;
    events = 18;
    records = 0;
    errors = [];
  },
  1 ∷ k.SOURCE_FILE ∷ 0 ∷ 22 ∷ 0 ∷ 1 ∷ k.RULE_DECL ∷ 0 ∷ 22 ∷ 1 ∷ 2 ∷ k.RULE_KW ∷ 0 ∷ 4 ∷ 2 ∷ 2 ∷ k.WHITESPACE ∷ 4 ∷ 5 ∷ 2
      ∷ 2 ∷ k.IDENT ∷ 5 ∷ 6 ∷ 2 ∷ 2 ∷ k.L_BRACE ∷ 6 ∷ 7 ∷ 2 ∷ 1 ∷ k.CONDITION_BLK ∷ 7 ∷ 21 ∷ 2 ∷ 2 ∷ k.CONDITION_KW ∷ 7 ∷ 16 ∷ 3
      ∷ 2 ∷ k.COLON ∷ 16 ∷ 17 ∷ 3 ∷ 1 ∷ k.BOOLEAN_EXPR ∷ 17 ∷ 21 ∷ 3 ∷ 1 ∷ k.BOOLEAN_TERM ∷ 17 ∷ 21 ∷ 4 ∷ 2 ∷ k.TRUE_KW ∷ 17 ∷ 21 ∷ 5
      ∷ 3 ∷ k.BOOLEAN_TERM ∷ 17 ∷ 21 ∷ 4 ∷ 3 ∷ k.BOOLEAN_EXPR ∷ 17 ∷ 21 ∷ 3 ∷ 3 ∷ k.CONDITION_BLK ∷ 7 ∷ 21 ∷ 2
      ∷ 2 ∷ k.R_BRACE ∷ 21 ∷ 22 ∷ 2 ∷ 3 ∷ k.RULE_DECL ∷ 0 ∷ 22 ∷ 1 ∷ 3 ∷ k.SOURCE_FILE ∷ 0 ∷ 22 ∷ 0 ∷ [],
)

abbrev stopped_early : Outside
stopped_early = (
  record {
    text = "rule a{condition:true}";
    ids = k.RULE_KW ∷ k.WHITESPACE ∷ k.IDENT ∷ k.L_BRACE ∷ k.CONDITION_KW ∷ k.COLON ∷ k.TRUE_KW ∷ k.R_BRACE ∷ [];
    ends = 4 ∷ 5 ∷ 6 ∷ 7 ∷ 16 ∷ 17 ∷ 21 ∷ 22 ∷ [];
    fuel = 4;
    outcome = 1;
    covered = 6;
    left = 0;
    events = 17;
    records = 1;
    errors = 7 ∷ 16 ∷ 1 ∷ 1 ∷ 2 ∷ k.META_KW ∷ k.STRINGS_KW ∷ [];
  },
  1 ∷ k.SOURCE_FILE ∷ 0 ∷ 22 ∷ 0 ∷ 1 ∷ k.ERROR ∷ 0 ∷ 17 ∷ 1 ∷ 2 ∷ k.RULE_KW ∷ 0 ∷ 4 ∷ 2 ∷ 2 ∷ k.WHITESPACE ∷ 4 ∷ 5 ∷ 2
      ∷ 2 ∷ k.IDENT ∷ 5 ∷ 6 ∷ 2 ∷ 2 ∷ k.L_BRACE ∷ 6 ∷ 7 ∷ 2 ∷ 1 ∷ k.ERROR ∷ 7 ∷ 17 ∷ 2 ∷ 2 ∷ k.CONDITION_KW ∷ 7 ∷ 16 ∷ 3
      ∷ 2 ∷ k.COLON ∷ 16 ∷ 17 ∷ 3 ∷ 1 ∷ k.ERROR ∷ 17 ∷ 17 ∷ 3 ∷ 1 ∷ k.ERROR ∷ 17 ∷ 17 ∷ 4 ∷ 3 ∷ k.ERROR ∷ 17 ∷ 17 ∷ 4
      ∷ 3 ∷ k.ERROR ∷ 17 ∷ 17 ∷ 3 ∷ 3 ∷ k.ERROR ∷ 7 ∷ 17 ∷ 2 ∷ 3 ∷ k.ERROR ∷ 0 ∷ 17 ∷ 1 ∷ 4 ∷ 0 ∷ 7 ∷ 16 ∷ 1
      ∷ 3 ∷ k.SOURCE_FILE ∷ 0 ∷ 22 ∷ 0 ∷ [],
)

abbrev no_condition : Outside
no_condition = (
  record {
    text = "rule a{condition:}";
    ids = k.RULE_KW ∷ k.WHITESPACE ∷ k.IDENT ∷ k.L_BRACE ∷ k.CONDITION_KW ∷ k.COLON ∷ k.R_BRACE ∷ [];
    ends = 4 ∷ 5 ∷ 6 ∷ 7 ∷ 16 ∷ 17 ∷ 18 ∷ [];
    fuel = 1000;
    outcome = 0;
    covered = 7;
    left = 987;
    events = 18;
    records = 1;
    errors = 17 ∷ 18 ∷ 1 ∷ 1 ∷ 2 ∷ k.EXPRESSION ∷ k.IDENT ∷ [];
  },
  1 ∷ k.SOURCE_FILE ∷ 0 ∷ 18 ∷ 0 ∷ 1 ∷ k.RULE_DECL ∷ 0 ∷ 18 ∷ 1 ∷ 2 ∷ k.RULE_KW ∷ 0 ∷ 4 ∷ 2 ∷ 2 ∷ k.WHITESPACE ∷ 4 ∷ 5 ∷ 2
      ∷ 2 ∷ k.IDENT ∷ 5 ∷ 6 ∷ 2 ∷ 2 ∷ k.L_BRACE ∷ 6 ∷ 7 ∷ 2 ∷ 1 ∷ k.CONDITION_BLK ∷ 7 ∷ 17 ∷ 2 ∷ 2 ∷ k.CONDITION_KW ∷ 7 ∷ 16 ∷ 3
      ∷ 2 ∷ k.COLON ∷ 16 ∷ 17 ∷ 3 ∷ 1 ∷ k.ERROR ∷ 17 ∷ 17 ∷ 3 ∷ 1 ∷ k.ERROR ∷ 17 ∷ 17 ∷ 4 ∷ 3 ∷ k.ERROR ∷ 17 ∷ 17 ∷ 4
      ∷ 3 ∷ k.ERROR ∷ 17 ∷ 17 ∷ 3 ∷ 3 ∷ k.CONDITION_BLK ∷ 7 ∷ 17 ∷ 2 ∷ 2 ∷ k.R_BRACE ∷ 17 ∷ 18 ∷ 2 ∷ 3 ∷ k.RULE_DECL ∷ 0 ∷ 18 ∷ 1
      ∷ 4 ∷ 0 ∷ 17 ∷ 18 ∷ 1 ∷ 3 ∷ k.SOURCE_FILE ∷ 0 ∷ 18 ∷ 0 ∷ [],
)

abbrev with_in_call : Outside
with_in_call = (
  record {
    text = "rule a{condition:f(with x=1:(any of ($a)at))}";
    ids = k.RULE_KW ∷ k.WHITESPACE ∷ k.IDENT ∷ k.L_BRACE ∷ k.CONDITION_KW ∷ k.COLON ∷ k.IDENT ∷ k.L_PAREN ∷ k.WITH_KW ∷ k.WHITESPACE ∷ k.IDENT
        ∷ k.EQUAL ∷ k.INTEGER_LIT ∷ k.COLON ∷ k.L_PAREN ∷ k.ANY_KW ∷ k.WHITESPACE ∷ k.OF_KW ∷ k.WHITESPACE ∷ k.L_PAREN ∷ k.PATTERN_IDENT
        ∷ k.R_PAREN ∷ k.AT_KW ∷ k.R_PAREN ∷ k.R_PAREN ∷ k.R_BRACE ∷ [];
    ends = 4 ∷ 5 ∷ 6 ∷ 7 ∷ 16 ∷ 17 ∷ 18 ∷ 19 ∷ 23 ∷ 24 ∷ 25 ∷ 26 ∷ 27 ∷ 28 ∷ 29 ∷ 32 ∷ 33 ∷ 35 ∷ 36 ∷ 37 ∷ 39 ∷ 40 ∷ 42 ∷ 43 ∷ 44 ∷ 45 ∷ [];
    fuel = 1000;
    outcome = 0;
    covered = 26;
    left = 901;
    events = 46;
    records = 2;
    errors = 42 ∷ 43 ∷ 1 ∷ 1 ∷ 2 ∷ k.EXPRESSION ∷ k.IDENT ∷ 40 ∷ 42 ∷ 1 ∷ 1 ∷ 4 ∷ k.OPERATOR ∷ k.COMMA ∷ k.R_PAREN ∷ k.IN_KW ∷ [];
  },
  1 ∷ k.SOURCE_FILE ∷ 0 ∷ 45 ∷ 0 ∷ 1 ∷ k.RULE_DECL ∷ 0 ∷ 45 ∷ 1 ∷ 2 ∷ k.RULE_KW ∷ 0 ∷ 4 ∷ 2 ∷ 2 ∷ k.WHITESPACE ∷ 4 ∷ 5 ∷ 2
      ∷ 2 ∷ k.IDENT ∷ 5 ∷ 6 ∷ 2 ∷ 2 ∷ k.L_BRACE ∷ 6 ∷ 7 ∷ 2 ∷ 1 ∷ k.CONDITION_BLK ∷ 7 ∷ 44 ∷ 2 ∷ 2 ∷ k.CONDITION_KW ∷ 7 ∷ 16 ∷ 3
      ∷ 2 ∷ k.COLON ∷ 16 ∷ 17 ∷ 3 ∷ 1 ∷ k.BOOLEAN_EXPR ∷ 17 ∷ 18 ∷ 3 ∷ 1 ∷ k.BOOLEAN_TERM ∷ 17 ∷ 18 ∷ 4 ∷ 1 ∷ k.EXPR ∷ 17 ∷ 18 ∷ 5
      ∷ 1 ∷ k.TERM ∷ 17 ∷ 18 ∷ 6 ∷ 1 ∷ k.PRIMARY_EXPR ∷ 17 ∷ 18 ∷ 7 ∷ 2 ∷ k.IDENT ∷ 17 ∷ 18 ∷ 8 ∷ 3 ∷ k.PRIMARY_EXPR ∷ 17 ∷ 18 ∷ 7
      ∷ 3 ∷ k.TERM ∷ 17 ∷ 18 ∷ 6 ∷ 3 ∷ k.EXPR ∷ 17 ∷ 18 ∷ 5 ∷ 3 ∷ k.BOOLEAN_TERM ∷ 17 ∷ 18 ∷ 4 ∷ 3 ∷ k.BOOLEAN_EXPR ∷ 17 ∷ 18 ∷ 3
      ∷ 1 ∷ k.ERROR ∷ 18 ∷ 44 ∷ 3 ∷ 2 ∷ k.L_PAREN ∷ 18 ∷ 19 ∷ 4 ∷ 2 ∷ k.WITH_KW ∷ 19 ∷ 23 ∷ 4 ∷ 2 ∷ k.WHITESPACE ∷ 23 ∷ 24 ∷ 4
      ∷ 2 ∷ k.IDENT ∷ 24 ∷ 25 ∷ 4 ∷ 2 ∷ k.EQUAL ∷ 25 ∷ 26 ∷ 4 ∷ 2 ∷ k.INTEGER_LIT ∷ 26 ∷ 27 ∷ 4 ∷ 2 ∷ k.COLON ∷ 27 ∷ 28 ∷ 4
      ∷ 2 ∷ k.L_PAREN ∷ 28 ∷ 29 ∷ 4 ∷ 2 ∷ k.ANY_KW ∷ 29 ∷ 32 ∷ 4 ∷ 2 ∷ k.WHITESPACE ∷ 32 ∷ 33 ∷ 4 ∷ 2 ∷ k.OF_KW ∷ 33 ∷ 35 ∷ 4
      ∷ 2 ∷ k.WHITESPACE ∷ 35 ∷ 36 ∷ 4 ∷ 2 ∷ k.L_PAREN ∷ 36 ∷ 37 ∷ 4 ∷ 2 ∷ k.PATTERN_IDENT ∷ 37 ∷ 39 ∷ 4 ∷ 2 ∷ k.R_PAREN ∷ 39 ∷ 40 ∷ 4
      ∷ 2 ∷ k.AT_KW ∷ 40 ∷ 42 ∷ 4 ∷ 2 ∷ k.R_PAREN ∷ 42 ∷ 43 ∷ 4 ∷ 2 ∷ k.R_PAREN ∷ 43 ∷ 44 ∷ 4 ∷ 3 ∷ k.ERROR ∷ 18 ∷ 44 ∷ 3
      ∷ 3 ∷ k.CONDITION_BLK ∷ 7 ∷ 44 ∷ 2 ∷ 2 ∷ k.R_BRACE ∷ 44 ∷ 45 ∷ 2 ∷ 3 ∷ k.RULE_DECL ∷ 0 ∷ 45 ∷ 1 ∷ 4 ∷ 0 ∷ 42 ∷ 43 ∷ 1
      ∷ 4 ∷ 1 ∷ 40 ∷ 42 ∷ 1 ∷ 3 ∷ k.SOURCE_FILE ∷ 0 ∷ 45 ∷ 0 ∷ [],
)

abbrev exact_cache : Outside
exact_cache = (
  record {
    text = "rule a{condition:with a=1:(a(with a=with a=1:(a[)))";
    ids = k.RULE_KW ∷ k.WHITESPACE ∷ k.IDENT ∷ k.L_BRACE ∷ k.CONDITION_KW ∷ k.COLON ∷ k.WITH_KW ∷ k.WHITESPACE ∷ k.IDENT ∷ k.EQUAL
        ∷ k.INTEGER_LIT ∷ k.COLON ∷ k.L_PAREN ∷ k.IDENT ∷ k.L_PAREN ∷ k.WITH_KW ∷ k.WHITESPACE ∷ k.IDENT ∷ k.EQUAL ∷ k.WITH_KW ∷ k.WHITESPACE
        ∷ k.IDENT ∷ k.EQUAL ∷ k.INTEGER_LIT ∷ k.COLON ∷ k.L_PAREN ∷ k.IDENT ∷ k.L_BRACKET ∷ k.R_PAREN ∷ k.R_PAREN ∷ k.R_PAREN ∷ [];
    ends = 4 ∷ 5 ∷ 6 ∷ 7 ∷ 16 ∷ 17 ∷ 21 ∷ 22 ∷ 23 ∷ 24 ∷ 25 ∷ 26 ∷ 27 ∷ 28 ∷ 29 ∷ 33 ∷ 34 ∷ 35 ∷ 36 ∷ 40 ∷ 41 ∷ 42 ∷ 43 ∷ 44 ∷ 45 ∷ 46 ∷ 47 ∷ 48
        ∷ 49 ∷ 50 ∷ 51 ∷ [];
    fuel = 100000;
    outcome = 0;
    covered = 31;
    left = 99872;
    events = 92;
    records = 5;
    errors = 36 ∷ 40 ∷ 1 ∷ 1 ∷ 4 ∷ k.EXPRESSION ∷ k.IDENT ∷ k.COLON ∷ k.L_PAREN ∷ 48 ∷ 49 ∷ 1 ∷ 1 ∷ 2 ∷ k.EXPRESSION ∷ k.IDENT ∷ 50 ∷ 51 ∷ 1 ∷ 1
        ∷ 2 ∷ k.EXPRESSION ∷ k.PERCENT ∷ 47 ∷ 48 ∷ 1 ∷ 1 ∷ 5 ∷ k.L_PAREN ∷ k.EXPRESSION ∷ k.PERCENT ∷ k.OPERATOR ∷ k.OF_KW ∷ 51 ∷ 51 ∷ 3 ∷ 1
        ∷ 2 ∷ k.OPERATOR ∷ k.R_BRACE ∷ [];
  },
  1 ∷ k.SOURCE_FILE ∷ 0 ∷ 51 ∷ 0 ∷ 1 ∷ k.ERROR ∷ 0 ∷ 51 ∷ 1 ∷ 2 ∷ k.RULE_KW ∷ 0 ∷ 4 ∷ 2 ∷ 2 ∷ k.WHITESPACE ∷ 4 ∷ 5 ∷ 2
      ∷ 2 ∷ k.IDENT ∷ 5 ∷ 6 ∷ 2 ∷ 2 ∷ k.L_BRACE ∷ 6 ∷ 7 ∷ 2 ∷ 1 ∷ k.CONDITION_BLK ∷ 7 ∷ 51 ∷ 2 ∷ 2 ∷ k.CONDITION_KW ∷ 7 ∷ 16 ∷ 3
      ∷ 2 ∷ k.COLON ∷ 16 ∷ 17 ∷ 3 ∷ 1 ∷ k.BOOLEAN_EXPR ∷ 17 ∷ 51 ∷ 3 ∷ 1 ∷ k.BOOLEAN_TERM ∷ 17 ∷ 51 ∷ 4 ∷ 1 ∷ k.WITH_EXPR ∷ 17 ∷ 51 ∷ 5
      ∷ 2 ∷ k.WITH_KW ∷ 17 ∷ 21 ∷ 6 ∷ 2 ∷ k.WHITESPACE ∷ 21 ∷ 22 ∷ 6 ∷ 1 ∷ k.WITH_DECLS ∷ 22 ∷ 25 ∷ 6 ∷ 1 ∷ k.WITH_DECL ∷ 22 ∷ 25 ∷ 7
      ∷ 2 ∷ k.IDENT ∷ 22 ∷ 23 ∷ 8 ∷ 2 ∷ k.EQUAL ∷ 23 ∷ 24 ∷ 8 ∷ 1 ∷ k.EXPR ∷ 24 ∷ 25 ∷ 8 ∷ 1 ∷ k.TERM ∷ 24 ∷ 25 ∷ 9
      ∷ 2 ∷ k.INTEGER_LIT ∷ 24 ∷ 25 ∷ 10 ∷ 3 ∷ k.TERM ∷ 24 ∷ 25 ∷ 9 ∷ 3 ∷ k.EXPR ∷ 24 ∷ 25 ∷ 8 ∷ 3 ∷ k.WITH_DECL ∷ 22 ∷ 25 ∷ 7
      ∷ 3 ∷ k.WITH_DECLS ∷ 22 ∷ 25 ∷ 6 ∷ 2 ∷ k.COLON ∷ 25 ∷ 26 ∷ 6 ∷ 2 ∷ k.L_PAREN ∷ 26 ∷ 27 ∷ 6 ∷ 1 ∷ k.BOOLEAN_EXPR ∷ 27 ∷ 50 ∷ 6
      ∷ 1 ∷ k.BOOLEAN_TERM ∷ 27 ∷ 50 ∷ 7 ∷ 1 ∷ k.EXPR ∷ 27 ∷ 50 ∷ 8 ∷ 1 ∷ k.TERM ∷ 27 ∷ 50 ∷ 9 ∷ 1 ∷ k.PRIMARY_EXPR ∷ 27 ∷ 50 ∷ 10
      ∷ 1 ∷ k.FUNC_CALL ∷ 27 ∷ 50 ∷ 11 ∷ 2 ∷ k.IDENT ∷ 27 ∷ 28 ∷ 12 ∷ 2 ∷ k.L_PAREN ∷ 28 ∷ 29 ∷ 12 ∷ 1 ∷ k.BOOLEAN_EXPR ∷ 29 ∷ 49 ∷ 12
      ∷ 1 ∷ k.BOOLEAN_TERM ∷ 29 ∷ 49 ∷ 13 ∷ 1 ∷ k.WITH_EXPR ∷ 29 ∷ 49 ∷ 14 ∷ 2 ∷ k.WITH_KW ∷ 29 ∷ 33 ∷ 15 ∷ 2 ∷ k.WHITESPACE ∷ 33 ∷ 34 ∷ 15
      ∷ 1 ∷ k.ERROR ∷ 34 ∷ 36 ∷ 15 ∷ 1 ∷ k.ERROR ∷ 34 ∷ 36 ∷ 16 ∷ 2 ∷ k.IDENT ∷ 34 ∷ 35 ∷ 17 ∷ 2 ∷ k.EQUAL ∷ 35 ∷ 36 ∷ 17
      ∷ 3 ∷ k.ERROR ∷ 34 ∷ 36 ∷ 16 ∷ 3 ∷ k.ERROR ∷ 34 ∷ 36 ∷ 15 ∷ 1 ∷ k.ERROR ∷ 36 ∷ 44 ∷ 15 ∷ 2 ∷ k.WITH_KW ∷ 36 ∷ 40 ∷ 16
      ∷ 2 ∷ k.WHITESPACE ∷ 40 ∷ 41 ∷ 16 ∷ 2 ∷ k.IDENT ∷ 41 ∷ 42 ∷ 16 ∷ 2 ∷ k.EQUAL ∷ 42 ∷ 43 ∷ 16 ∷ 2 ∷ k.INTEGER_LIT ∷ 43 ∷ 44 ∷ 16
      ∷ 3 ∷ k.ERROR ∷ 36 ∷ 44 ∷ 15 ∷ 2 ∷ k.COLON ∷ 44 ∷ 45 ∷ 15 ∷ 2 ∷ k.L_PAREN ∷ 45 ∷ 46 ∷ 15 ∷ 1 ∷ k.BOOLEAN_EXPR ∷ 46 ∷ 47 ∷ 15
      ∷ 1 ∷ k.BOOLEAN_TERM ∷ 46 ∷ 47 ∷ 16 ∷ 1 ∷ k.EXPR ∷ 46 ∷ 47 ∷ 17 ∷ 1 ∷ k.TERM ∷ 46 ∷ 47 ∷ 18 ∷ 1 ∷ k.PRIMARY_EXPR ∷ 46 ∷ 47 ∷ 19
      ∷ 2 ∷ k.IDENT ∷ 46 ∷ 47 ∷ 20 ∷ 3 ∷ k.PRIMARY_EXPR ∷ 46 ∷ 47 ∷ 19 ∷ 3 ∷ k.TERM ∷ 46 ∷ 47 ∷ 18 ∷ 3 ∷ k.EXPR ∷ 46 ∷ 47 ∷ 17
      ∷ 3 ∷ k.BOOLEAN_TERM ∷ 46 ∷ 47 ∷ 16 ∷ 3 ∷ k.BOOLEAN_EXPR ∷ 46 ∷ 47 ∷ 15 ∷ 1 ∷ k.ERROR ∷ 47 ∷ 48 ∷ 15 ∷ 2 ∷ k.L_BRACKET ∷ 47 ∷ 48 ∷ 16
      ∷ 3 ∷ k.ERROR ∷ 47 ∷ 48 ∷ 15 ∷ 2 ∷ k.R_PAREN ∷ 48 ∷ 49 ∷ 15 ∷ 3 ∷ k.WITH_EXPR ∷ 29 ∷ 49 ∷ 14 ∷ 3 ∷ k.BOOLEAN_TERM ∷ 29 ∷ 49 ∷ 13
      ∷ 3 ∷ k.BOOLEAN_EXPR ∷ 29 ∷ 49 ∷ 12 ∷ 2 ∷ k.R_PAREN ∷ 49 ∷ 50 ∷ 12 ∷ 3 ∷ k.FUNC_CALL ∷ 27 ∷ 50 ∷ 11
      ∷ 3 ∷ k.PRIMARY_EXPR ∷ 27 ∷ 50 ∷ 10 ∷ 3 ∷ k.TERM ∷ 27 ∷ 50 ∷ 9 ∷ 3 ∷ k.EXPR ∷ 27 ∷ 50 ∷ 8 ∷ 3 ∷ k.BOOLEAN_TERM ∷ 27 ∷ 50 ∷ 7
      ∷ 3 ∷ k.BOOLEAN_EXPR ∷ 27 ∷ 50 ∷ 6 ∷ 2 ∷ k.R_PAREN ∷ 50 ∷ 51 ∷ 6 ∷ 3 ∷ k.WITH_EXPR ∷ 17 ∷ 51 ∷ 5 ∷ 3 ∷ k.BOOLEAN_TERM ∷ 17 ∷ 51 ∷ 4
      ∷ 3 ∷ k.BOOLEAN_EXPR ∷ 17 ∷ 51 ∷ 3 ∷ 3 ∷ k.CONDITION_BLK ∷ 7 ∷ 51 ∷ 2 ∷ 3 ∷ k.ERROR ∷ 0 ∷ 51 ∷ 1 ∷ 4 ∷ 0 ∷ 36 ∷ 40 ∷ 1
      ∷ 4 ∷ 1 ∷ 48 ∷ 49 ∷ 1 ∷ 4 ∷ 2 ∷ 50 ∷ 51 ∷ 1 ∷ 4 ∷ 3 ∷ 47 ∷ 48 ∷ 1 ∷ 4 ∷ 4 ∷ 51 ∷ 51 ∷ 1 ∷ 3 ∷ k.SOURCE_FILE ∷ 0 ∷ 51 ∷ 0 ∷ [],
)

abbrev stops_at_recover : Outside
stops_at_recover = (
  record {
    text = "rule a{condition:true x /**/ y }";
    ids = k.RULE_KW ∷ k.WHITESPACE ∷ k.IDENT ∷ k.L_BRACE ∷ k.CONDITION_KW ∷ k.COLON ∷ k.TRUE_KW ∷ k.WHITESPACE ∷ k.IDENT ∷ k.WHITESPACE
        ∷ k.COMMENT ∷ k.WHITESPACE ∷ k.IDENT ∷ k.WHITESPACE ∷ k.R_BRACE ∷ [];
    ends = 4 ∷ 5 ∷ 6 ∷ 7 ∷ 16 ∷ 17 ∷ 21 ∷ 22 ∷ 23 ∷ 24 ∷ 28 ∷ 29 ∷ 30 ∷ 31 ∷ 32 ∷ [];
    fuel = 5;
    outcome = 1;
    covered = 13;
    left = 0;
    events = 26;
    records = 1;
    errors = 22 ∷ 23 ∷ 1 ∷ 1 ∷ 2 ∷ k.OPERATOR ∷ k.R_BRACE ∷ [];
  },
  1 ∷ k.SOURCE_FILE ∷ 0 ∷ 32 ∷ 0 ∷ 1 ∷ k.ERROR ∷ 0 ∷ 30 ∷ 1 ∷ 2 ∷ k.RULE_KW ∷ 0 ∷ 4 ∷ 2 ∷ 2 ∷ k.WHITESPACE ∷ 4 ∷ 5 ∷ 2
      ∷ 2 ∷ k.IDENT ∷ 5 ∷ 6 ∷ 2 ∷ 2 ∷ k.L_BRACE ∷ 6 ∷ 7 ∷ 2 ∷ 1 ∷ k.ERROR ∷ 7 ∷ 30 ∷ 2 ∷ 2 ∷ k.CONDITION_KW ∷ 7 ∷ 16 ∷ 3
      ∷ 2 ∷ k.COLON ∷ 16 ∷ 17 ∷ 3 ∷ 1 ∷ k.BOOLEAN_EXPR ∷ 17 ∷ 21 ∷ 3 ∷ 1 ∷ k.BOOLEAN_TERM ∷ 17 ∷ 21 ∷ 4 ∷ 2 ∷ k.TRUE_KW ∷ 17 ∷ 21 ∷ 5
      ∷ 3 ∷ k.BOOLEAN_TERM ∷ 17 ∷ 21 ∷ 4 ∷ 3 ∷ k.BOOLEAN_EXPR ∷ 17 ∷ 21 ∷ 3 ∷ 2 ∷ k.WHITESPACE ∷ 21 ∷ 22 ∷ 3 ∷ 1 ∷ k.ERROR ∷ 22 ∷ 30 ∷ 3
      ∷ 2 ∷ k.IDENT ∷ 22 ∷ 23 ∷ 4 ∷ 2 ∷ k.WHITESPACE ∷ 23 ∷ 24 ∷ 4 ∷ 2 ∷ k.COMMENT ∷ 24 ∷ 28 ∷ 4 ∷ 2 ∷ k.WHITESPACE ∷ 28 ∷ 29 ∷ 4
      ∷ 2 ∷ k.IDENT ∷ 29 ∷ 30 ∷ 4 ∷ 3 ∷ k.ERROR ∷ 22 ∷ 30 ∷ 3 ∷ 3 ∷ k.ERROR ∷ 7 ∷ 30 ∷ 2 ∷ 3 ∷ k.ERROR ∷ 0 ∷ 30 ∷ 1 ∷ 4 ∷ 0 ∷ 22 ∷ 23 ∷ 1
      ∷ 3 ∷ k.SOURCE_FILE ∷ 0 ∷ 32 ∷ 0 ∷ [],
)

abbrev all_rows_covered : Outside
all_rows_covered = (
  record {
    text = "rule a{condition:true}x";
    ids = k.RULE_KW ∷ k.WHITESPACE ∷ k.IDENT ∷ k.L_BRACE ∷ k.CONDITION_KW ∷ k.COLON ∷ k.TRUE_KW ∷ k.R_BRACE ∷ k.IDENT ∷ [];
    ends = 4 ∷ 5 ∷ 6 ∷ 7 ∷ 16 ∷ 17 ∷ 21 ∷ 22 ∷ 23 ∷ [];
    fuel = 5;
    outcome = 1;
    covered = 9;
    left = 0;
    events = 22;
    records = 1;
    errors = 22 ∷ 23 ∷ 1 ∷ 1 ∷ 5 ∷ k.GLOBAL_KW ∷ k.PRIVATE_KW ∷ k.RULE_KW ∷ k.IMPORT_KW ∷ k.INCLUDE_KW ∷ [];
  },
  1 ∷ k.SOURCE_FILE ∷ 0 ∷ 23 ∷ 0 ∷ 1 ∷ k.RULE_DECL ∷ 0 ∷ 22 ∷ 1 ∷ 2 ∷ k.RULE_KW ∷ 0 ∷ 4 ∷ 2 ∷ 2 ∷ k.WHITESPACE ∷ 4 ∷ 5 ∷ 2
      ∷ 2 ∷ k.IDENT ∷ 5 ∷ 6 ∷ 2 ∷ 2 ∷ k.L_BRACE ∷ 6 ∷ 7 ∷ 2 ∷ 1 ∷ k.CONDITION_BLK ∷ 7 ∷ 21 ∷ 2 ∷ 2 ∷ k.CONDITION_KW ∷ 7 ∷ 16 ∷ 3
      ∷ 2 ∷ k.COLON ∷ 16 ∷ 17 ∷ 3 ∷ 1 ∷ k.BOOLEAN_EXPR ∷ 17 ∷ 21 ∷ 3 ∷ 1 ∷ k.BOOLEAN_TERM ∷ 17 ∷ 21 ∷ 4 ∷ 2 ∷ k.TRUE_KW ∷ 17 ∷ 21 ∷ 5
      ∷ 3 ∷ k.BOOLEAN_TERM ∷ 17 ∷ 21 ∷ 4 ∷ 3 ∷ k.BOOLEAN_EXPR ∷ 17 ∷ 21 ∷ 3 ∷ 3 ∷ k.CONDITION_BLK ∷ 7 ∷ 21 ∷ 2
      ∷ 2 ∷ k.R_BRACE ∷ 21 ∷ 22 ∷ 2 ∷ 3 ∷ k.RULE_DECL ∷ 0 ∷ 22 ∷ 1 ∷ 1 ∷ k.ERROR ∷ 22 ∷ 23 ∷ 1 ∷ 2 ∷ k.IDENT ∷ 22 ∷ 23 ∷ 2
      ∷ 3 ∷ k.ERROR ∷ 22 ∷ 23 ∷ 1 ∷ 4 ∷ 0 ∷ 22 ∷ 23 ∷ 1 ∷ 3 ∷ k.SOURCE_FILE ∷ 0 ∷ 23 ∷ 0 ∷ [],
)

abbrev for_in_failure : Outside
for_in_failure = (
  record {
    text = "rule a{condition:for any i: (true)}";
    ids = k.RULE_KW ∷ k.WHITESPACE ∷ k.IDENT ∷ k.L_BRACE ∷ k.CONDITION_KW ∷ k.COLON ∷ k.FOR_KW ∷ k.WHITESPACE ∷ k.ANY_KW ∷ k.WHITESPACE
        ∷ k.IDENT ∷ k.COLON ∷ k.WHITESPACE ∷ k.L_PAREN ∷ k.TRUE_KW ∷ k.R_PAREN ∷ k.R_BRACE ∷ [];
    ends = 4 ∷ 5 ∷ 6 ∷ 7 ∷ 16 ∷ 17 ∷ 20 ∷ 21 ∷ 24 ∷ 25 ∷ 26 ∷ 27 ∷ 28 ∷ 29 ∷ 33 ∷ 34 ∷ 35 ∷ [];
    fuel = 1000;
    outcome = 0;
    covered = 17;
    left = 984;
    events = 30;
    records = 1;
    errors = 26 ∷ 27 ∷ 1 ∷ 1 ∷ 2 ∷ k.COMMA ∷ k.IN_KW ∷ [];
  },
  1 ∷ k.SOURCE_FILE ∷ 0 ∷ 35 ∷ 0 ∷ 1 ∷ k.RULE_DECL ∷ 0 ∷ 35 ∷ 1 ∷ 2 ∷ k.RULE_KW ∷ 0 ∷ 4 ∷ 2 ∷ 2 ∷ k.WHITESPACE ∷ 4 ∷ 5 ∷ 2
      ∷ 2 ∷ k.IDENT ∷ 5 ∷ 6 ∷ 2 ∷ 2 ∷ k.L_BRACE ∷ 6 ∷ 7 ∷ 2 ∷ 1 ∷ k.CONDITION_BLK ∷ 7 ∷ 34 ∷ 2 ∷ 2 ∷ k.CONDITION_KW ∷ 7 ∷ 16 ∷ 3
      ∷ 2 ∷ k.COLON ∷ 16 ∷ 17 ∷ 3 ∷ 1 ∷ k.ERROR ∷ 17 ∷ 17 ∷ 3 ∷ 1 ∷ k.ERROR ∷ 17 ∷ 17 ∷ 4 ∷ 3 ∷ k.ERROR ∷ 17 ∷ 17 ∷ 4
      ∷ 3 ∷ k.ERROR ∷ 17 ∷ 17 ∷ 3 ∷ 1 ∷ k.ERROR ∷ 17 ∷ 34 ∷ 3 ∷ 2 ∷ k.FOR_KW ∷ 17 ∷ 20 ∷ 4 ∷ 2 ∷ k.WHITESPACE ∷ 20 ∷ 21 ∷ 4
      ∷ 2 ∷ k.ANY_KW ∷ 21 ∷ 24 ∷ 4 ∷ 2 ∷ k.WHITESPACE ∷ 24 ∷ 25 ∷ 4 ∷ 2 ∷ k.IDENT ∷ 25 ∷ 26 ∷ 4 ∷ 2 ∷ k.COLON ∷ 26 ∷ 27 ∷ 4
      ∷ 2 ∷ k.WHITESPACE ∷ 27 ∷ 28 ∷ 4 ∷ 2 ∷ k.L_PAREN ∷ 28 ∷ 29 ∷ 4 ∷ 2 ∷ k.TRUE_KW ∷ 29 ∷ 33 ∷ 4 ∷ 2 ∷ k.R_PAREN ∷ 33 ∷ 34 ∷ 4
      ∷ 3 ∷ k.ERROR ∷ 17 ∷ 34 ∷ 3 ∷ 3 ∷ k.CONDITION_BLK ∷ 7 ∷ 34 ∷ 2 ∷ 2 ∷ k.R_BRACE ∷ 34 ∷ 35 ∷ 2 ∷ 3 ∷ k.RULE_DECL ∷ 0 ∷ 35 ∷ 1
      ∷ 4 ∷ 0 ∷ 26 ∷ 27 ∷ 1 ∷ 3 ∷ k.SOURCE_FILE ∷ 0 ∷ 35 ∷ 0 ∷ [],
)

abbrev with_stray : Outside
with_stray = (
  record {
    text = "rule a{condition:with @:(true)}";
    ids = k.RULE_KW ∷ k.WHITESPACE ∷ k.IDENT ∷ k.L_BRACE ∷ k.CONDITION_KW ∷ k.COLON ∷ k.WITH_KW ∷ k.WHITESPACE ∷ k.PATTERN_OFFSET ∷ k.COLON
        ∷ k.L_PAREN ∷ k.TRUE_KW ∷ k.R_PAREN ∷ k.R_BRACE ∷ [];
    ends = 4 ∷ 5 ∷ 6 ∷ 7 ∷ 16 ∷ 17 ∷ 21 ∷ 22 ∷ 23 ∷ 24 ∷ 25 ∷ 29 ∷ 30 ∷ 31 ∷ [];
    fuel = 1000;
    outcome = 0;
    covered = 14;
    left = 982;
    events = 37;
    records = 1;
    errors = 22 ∷ 23 ∷ 1 ∷ 1 ∷ 3 ∷ k.IDENT ∷ k.COLON ∷ k.L_PAREN ∷ [];
  },
  1 ∷ k.SOURCE_FILE ∷ 0 ∷ 31 ∷ 0 ∷ 1 ∷ k.RULE_DECL ∷ 0 ∷ 31 ∷ 1 ∷ 2 ∷ k.RULE_KW ∷ 0 ∷ 4 ∷ 2 ∷ 2 ∷ k.WHITESPACE ∷ 4 ∷ 5 ∷ 2
      ∷ 2 ∷ k.IDENT ∷ 5 ∷ 6 ∷ 2 ∷ 2 ∷ k.L_BRACE ∷ 6 ∷ 7 ∷ 2 ∷ 1 ∷ k.CONDITION_BLK ∷ 7 ∷ 30 ∷ 2 ∷ 2 ∷ k.CONDITION_KW ∷ 7 ∷ 16 ∷ 3
      ∷ 2 ∷ k.COLON ∷ 16 ∷ 17 ∷ 3 ∷ 1 ∷ k.BOOLEAN_EXPR ∷ 17 ∷ 30 ∷ 3 ∷ 1 ∷ k.BOOLEAN_TERM ∷ 17 ∷ 30 ∷ 4 ∷ 1 ∷ k.WITH_EXPR ∷ 17 ∷ 30 ∷ 5
      ∷ 2 ∷ k.WITH_KW ∷ 17 ∷ 21 ∷ 6 ∷ 2 ∷ k.WHITESPACE ∷ 21 ∷ 22 ∷ 6 ∷ 1 ∷ k.ERROR ∷ 22 ∷ 22 ∷ 6 ∷ 1 ∷ k.ERROR ∷ 22 ∷ 22 ∷ 7
      ∷ 3 ∷ k.ERROR ∷ 22 ∷ 22 ∷ 7 ∷ 3 ∷ k.ERROR ∷ 22 ∷ 22 ∷ 6 ∷ 1 ∷ k.ERROR ∷ 22 ∷ 23 ∷ 6 ∷ 2 ∷ k.PATTERN_OFFSET ∷ 22 ∷ 23 ∷ 7
      ∷ 3 ∷ k.ERROR ∷ 22 ∷ 23 ∷ 6 ∷ 2 ∷ k.COLON ∷ 23 ∷ 24 ∷ 6 ∷ 2 ∷ k.L_PAREN ∷ 24 ∷ 25 ∷ 6 ∷ 1 ∷ k.BOOLEAN_EXPR ∷ 25 ∷ 29 ∷ 6
      ∷ 1 ∷ k.BOOLEAN_TERM ∷ 25 ∷ 29 ∷ 7 ∷ 2 ∷ k.TRUE_KW ∷ 25 ∷ 29 ∷ 8 ∷ 3 ∷ k.BOOLEAN_TERM ∷ 25 ∷ 29 ∷ 7
      ∷ 3 ∷ k.BOOLEAN_EXPR ∷ 25 ∷ 29 ∷ 6 ∷ 2 ∷ k.R_PAREN ∷ 29 ∷ 30 ∷ 6 ∷ 3 ∷ k.WITH_EXPR ∷ 17 ∷ 30 ∷ 5 ∷ 3 ∷ k.BOOLEAN_TERM ∷ 17 ∷ 30 ∷ 4
      ∷ 3 ∷ k.BOOLEAN_EXPR ∷ 17 ∷ 30 ∷ 3 ∷ 3 ∷ k.CONDITION_BLK ∷ 7 ∷ 30 ∷ 2 ∷ 2 ∷ k.R_BRACE ∷ 30 ∷ 31 ∷ 2 ∷ 3 ∷ k.RULE_DECL ∷ 0 ∷ 31 ∷ 1
      ∷ 4 ∷ 0 ∷ 22 ∷ 23 ∷ 1 ∷ 3 ∷ k.SOURCE_FILE ∷ 0 ∷ 31 ∷ 0 ∷ [],
)

abbrev nested_calls : Outside
nested_calls = (
  record {
    text = "rule a{condition:f(f(f(1)))}";
    ids = k.RULE_KW ∷ k.WHITESPACE ∷ k.IDENT ∷ k.L_BRACE ∷ k.CONDITION_KW ∷ k.COLON ∷ k.IDENT ∷ k.L_PAREN ∷ k.IDENT ∷ k.L_PAREN ∷ k.IDENT
        ∷ k.L_PAREN ∷ k.INTEGER_LIT ∷ k.R_PAREN ∷ k.R_PAREN ∷ k.R_PAREN ∷ k.R_BRACE ∷ [];
    ends = 4 ∷ 5 ∷ 6 ∷ 7 ∷ 16 ∷ 17 ∷ 18 ∷ 19 ∷ 20 ∷ 21 ∷ 22 ∷ 23 ∷ 24 ∷ 25 ∷ 26 ∷ 27 ∷ 28 ∷ [];
    fuel = 1000;
    outcome = 0;
    covered = 17;
    left = 479;
    events = 67;
    records = 0;
    errors = [];
  },
  1 ∷ k.SOURCE_FILE ∷ 0 ∷ 28 ∷ 0 ∷ 1 ∷ k.RULE_DECL ∷ 0 ∷ 28 ∷ 1 ∷ 2 ∷ k.RULE_KW ∷ 0 ∷ 4 ∷ 2 ∷ 2 ∷ k.WHITESPACE ∷ 4 ∷ 5 ∷ 2
      ∷ 2 ∷ k.IDENT ∷ 5 ∷ 6 ∷ 2 ∷ 2 ∷ k.L_BRACE ∷ 6 ∷ 7 ∷ 2 ∷ 1 ∷ k.CONDITION_BLK ∷ 7 ∷ 27 ∷ 2 ∷ 2 ∷ k.CONDITION_KW ∷ 7 ∷ 16 ∷ 3
      ∷ 2 ∷ k.COLON ∷ 16 ∷ 17 ∷ 3 ∷ 1 ∷ k.BOOLEAN_EXPR ∷ 17 ∷ 27 ∷ 3 ∷ 1 ∷ k.BOOLEAN_TERM ∷ 17 ∷ 27 ∷ 4 ∷ 1 ∷ k.EXPR ∷ 17 ∷ 27 ∷ 5
      ∷ 1 ∷ k.TERM ∷ 17 ∷ 27 ∷ 6 ∷ 1 ∷ k.PRIMARY_EXPR ∷ 17 ∷ 27 ∷ 7 ∷ 1 ∷ k.FUNC_CALL ∷ 17 ∷ 27 ∷ 8 ∷ 2 ∷ k.IDENT ∷ 17 ∷ 18 ∷ 9
      ∷ 2 ∷ k.L_PAREN ∷ 18 ∷ 19 ∷ 9 ∷ 1 ∷ k.BOOLEAN_EXPR ∷ 19 ∷ 26 ∷ 9 ∷ 1 ∷ k.BOOLEAN_TERM ∷ 19 ∷ 26 ∷ 10 ∷ 1 ∷ k.EXPR ∷ 19 ∷ 26 ∷ 11
      ∷ 1 ∷ k.TERM ∷ 19 ∷ 26 ∷ 12 ∷ 1 ∷ k.PRIMARY_EXPR ∷ 19 ∷ 26 ∷ 13 ∷ 1 ∷ k.FUNC_CALL ∷ 19 ∷ 26 ∷ 14 ∷ 2 ∷ k.IDENT ∷ 19 ∷ 20 ∷ 15
      ∷ 2 ∷ k.L_PAREN ∷ 20 ∷ 21 ∷ 15 ∷ 1 ∷ k.BOOLEAN_EXPR ∷ 21 ∷ 25 ∷ 15 ∷ 1 ∷ k.BOOLEAN_TERM ∷ 21 ∷ 25 ∷ 16 ∷ 1 ∷ k.EXPR ∷ 21 ∷ 25 ∷ 17
      ∷ 1 ∷ k.TERM ∷ 21 ∷ 25 ∷ 18 ∷ 1 ∷ k.PRIMARY_EXPR ∷ 21 ∷ 25 ∷ 19 ∷ 1 ∷ k.FUNC_CALL ∷ 21 ∷ 25 ∷ 20 ∷ 2 ∷ k.IDENT ∷ 21 ∷ 22 ∷ 21
      ∷ 2 ∷ k.L_PAREN ∷ 22 ∷ 23 ∷ 21 ∷ 1 ∷ k.BOOLEAN_EXPR ∷ 23 ∷ 24 ∷ 21 ∷ 1 ∷ k.BOOLEAN_TERM ∷ 23 ∷ 24 ∷ 22 ∷ 1 ∷ k.EXPR ∷ 23 ∷ 24 ∷ 23
      ∷ 1 ∷ k.TERM ∷ 23 ∷ 24 ∷ 24 ∷ 2 ∷ k.INTEGER_LIT ∷ 23 ∷ 24 ∷ 25 ∷ 3 ∷ k.TERM ∷ 23 ∷ 24 ∷ 24 ∷ 3 ∷ k.EXPR ∷ 23 ∷ 24 ∷ 23
      ∷ 3 ∷ k.BOOLEAN_TERM ∷ 23 ∷ 24 ∷ 22 ∷ 3 ∷ k.BOOLEAN_EXPR ∷ 23 ∷ 24 ∷ 21 ∷ 2 ∷ k.R_PAREN ∷ 24 ∷ 25 ∷ 21
      ∷ 3 ∷ k.FUNC_CALL ∷ 21 ∷ 25 ∷ 20 ∷ 3 ∷ k.PRIMARY_EXPR ∷ 21 ∷ 25 ∷ 19 ∷ 3 ∷ k.TERM ∷ 21 ∷ 25 ∷ 18 ∷ 3 ∷ k.EXPR ∷ 21 ∷ 25 ∷ 17
      ∷ 3 ∷ k.BOOLEAN_TERM ∷ 21 ∷ 25 ∷ 16 ∷ 3 ∷ k.BOOLEAN_EXPR ∷ 21 ∷ 25 ∷ 15 ∷ 2 ∷ k.R_PAREN ∷ 25 ∷ 26 ∷ 15
      ∷ 3 ∷ k.FUNC_CALL ∷ 19 ∷ 26 ∷ 14 ∷ 3 ∷ k.PRIMARY_EXPR ∷ 19 ∷ 26 ∷ 13 ∷ 3 ∷ k.TERM ∷ 19 ∷ 26 ∷ 12 ∷ 3 ∷ k.EXPR ∷ 19 ∷ 26 ∷ 11
      ∷ 3 ∷ k.BOOLEAN_TERM ∷ 19 ∷ 26 ∷ 10 ∷ 3 ∷ k.BOOLEAN_EXPR ∷ 19 ∷ 26 ∷ 9 ∷ 2 ∷ k.R_PAREN ∷ 26 ∷ 27 ∷ 9 ∷ 3 ∷ k.FUNC_CALL ∷ 17 ∷ 27 ∷ 8
      ∷ 3 ∷ k.PRIMARY_EXPR ∷ 17 ∷ 27 ∷ 7 ∷ 3 ∷ k.TERM ∷ 17 ∷ 27 ∷ 6 ∷ 3 ∷ k.EXPR ∷ 17 ∷ 27 ∷ 5 ∷ 3 ∷ k.BOOLEAN_TERM ∷ 17 ∷ 27 ∷ 4
      ∷ 3 ∷ k.BOOLEAN_EXPR ∷ 17 ∷ 27 ∷ 3 ∷ 3 ∷ k.CONDITION_BLK ∷ 7 ∷ 27 ∷ 2 ∷ 2 ∷ k.R_BRACE ∷ 27 ∷ 28 ∷ 2 ∷ 3 ∷ k.RULE_DECL ∷ 0 ∷ 28 ∷ 1
      ∷ 3 ∷ k.SOURCE_FILE ∷ 0 ∷ 28 ∷ 0 ∷ [],
)

abbrev patterns : Outside
patterns = (
  record {
    text = "private rule a : t1 t2 { meta: x = \"y\" n = -3 strings: $a = \"s\" wide xor(1-2) $b = { 0A ?? [2-4] ( 01 | 02 ) } $c = /r/i condition: $a at 10 and #b > 3 or any of ($c*) }";
    ids = k.PRIVATE_KW ∷ k.WHITESPACE ∷ k.RULE_KW ∷ k.WHITESPACE ∷ k.IDENT ∷ k.WHITESPACE ∷ k.COLON ∷ k.WHITESPACE ∷ k.IDENT ∷ k.WHITESPACE
        ∷ k.IDENT ∷ k.WHITESPACE ∷ k.L_BRACE ∷ k.WHITESPACE ∷ k.META_KW ∷ k.COLON ∷ k.WHITESPACE ∷ k.IDENT ∷ k.WHITESPACE ∷ k.EQUAL
        ∷ k.WHITESPACE ∷ k.STRING_LIT ∷ k.WHITESPACE ∷ k.IDENT ∷ k.WHITESPACE ∷ k.EQUAL ∷ k.WHITESPACE ∷ k.HYPHEN ∷ k.INTEGER_LIT
        ∷ k.WHITESPACE ∷ k.STRINGS_KW ∷ k.COLON ∷ k.WHITESPACE ∷ k.PATTERN_IDENT ∷ k.WHITESPACE ∷ k.EQUAL ∷ k.WHITESPACE ∷ k.STRING_LIT
        ∷ k.WHITESPACE ∷ k.WIDE_KW ∷ k.WHITESPACE ∷ k.XOR_KW ∷ k.L_PAREN ∷ k.INTEGER_LIT ∷ k.HYPHEN ∷ k.INTEGER_LIT ∷ k.R_PAREN
        ∷ k.WHITESPACE ∷ k.PATTERN_IDENT ∷ k.WHITESPACE ∷ k.EQUAL ∷ k.WHITESPACE ∷ k.L_BRACE ∷ k.WHITESPACE ∷ k.HEX_BYTE ∷ k.WHITESPACE
        ∷ k.HEX_BYTE ∷ k.WHITESPACE ∷ k.L_BRACKET ∷ k.INTEGER_LIT ∷ k.HYPHEN ∷ k.INTEGER_LIT ∷ k.R_BRACKET ∷ k.WHITESPACE ∷ k.L_PAREN
        ∷ k.WHITESPACE ∷ k.HEX_BYTE ∷ k.WHITESPACE ∷ k.PIPE ∷ k.WHITESPACE ∷ k.HEX_BYTE ∷ k.WHITESPACE ∷ k.R_PAREN ∷ k.WHITESPACE ∷ k.R_BRACE
        ∷ k.WHITESPACE ∷ k.PATTERN_IDENT ∷ k.WHITESPACE ∷ k.EQUAL ∷ k.WHITESPACE ∷ k.REGEXP ∷ k.WHITESPACE ∷ k.CONDITION_KW ∷ k.COLON
        ∷ k.WHITESPACE ∷ k.PATTERN_IDENT ∷ k.WHITESPACE ∷ k.AT_KW ∷ k.WHITESPACE ∷ k.INTEGER_LIT ∷ k.WHITESPACE ∷ k.AND_KW ∷ k.WHITESPACE
        ∷ k.PATTERN_COUNT ∷ k.WHITESPACE ∷ k.GT ∷ k.WHITESPACE ∷ k.INTEGER_LIT ∷ k.WHITESPACE ∷ k.OR_KW ∷ k.WHITESPACE ∷ k.ANY_KW
        ∷ k.WHITESPACE ∷ k.OF_KW ∷ k.WHITESPACE ∷ k.L_PAREN ∷ k.PATTERN_IDENT ∷ k.ASTERISK ∷ k.R_PAREN ∷ k.WHITESPACE ∷ k.R_BRACE ∷ [];
    ends = 7 ∷ 8 ∷ 12 ∷ 13 ∷ 14 ∷ 15 ∷ 16 ∷ 17 ∷ 19 ∷ 20 ∷ 22 ∷ 23 ∷ 24 ∷ 25 ∷ 29 ∷ 30 ∷ 31 ∷ 32 ∷ 33 ∷ 34 ∷ 35 ∷ 38 ∷ 39 ∷ 40 ∷ 41 ∷ 42 ∷ 43
        ∷ 44 ∷ 45 ∷ 46 ∷ 53 ∷ 54 ∷ 55 ∷ 57 ∷ 58 ∷ 59 ∷ 60 ∷ 63 ∷ 64 ∷ 68 ∷ 69 ∷ 72 ∷ 73 ∷ 74 ∷ 75 ∷ 76 ∷ 77 ∷ 78 ∷ 80 ∷ 81 ∷ 82 ∷ 83 ∷ 84
        ∷ 85 ∷ 87 ∷ 88 ∷ 90 ∷ 91 ∷ 92 ∷ 93 ∷ 94 ∷ 95 ∷ 96 ∷ 97 ∷ 98 ∷ 99 ∷ 101 ∷ 102 ∷ 103 ∷ 104 ∷ 106 ∷ 107 ∷ 108 ∷ 109 ∷ 110 ∷ 111 ∷ 113
        ∷ 114 ∷ 115 ∷ 116 ∷ 120 ∷ 121 ∷ 130 ∷ 131 ∷ 132 ∷ 134 ∷ 135 ∷ 137 ∷ 138 ∷ 140 ∷ 141 ∷ 144 ∷ 145 ∷ 147 ∷ 148 ∷ 149 ∷ 150 ∷ 151 ∷ 152
        ∷ 154 ∷ 155 ∷ 158 ∷ 159 ∷ 161 ∷ 162 ∷ 163 ∷ 165 ∷ 166 ∷ 167 ∷ 168 ∷ 169 ∷ [];
    fuel = 1000;
    outcome = 0;
    covered = 111;
    left = 944;
    events = 179;
    records = 0;
    errors = [];
  },
  1 ∷ k.SOURCE_FILE ∷ 0 ∷ 169 ∷ 0 ∷ 1 ∷ k.RULE_DECL ∷ 0 ∷ 169 ∷ 1 ∷ 1 ∷ k.RULE_MODS ∷ 0 ∷ 7 ∷ 2 ∷ 2 ∷ k.PRIVATE_KW ∷ 0 ∷ 7 ∷ 3
      ∷ 3 ∷ k.RULE_MODS ∷ 0 ∷ 7 ∷ 2 ∷ 2 ∷ k.WHITESPACE ∷ 7 ∷ 8 ∷ 2 ∷ 2 ∷ k.RULE_KW ∷ 8 ∷ 12 ∷ 2 ∷ 2 ∷ k.WHITESPACE ∷ 12 ∷ 13 ∷ 2
      ∷ 2 ∷ k.IDENT ∷ 13 ∷ 14 ∷ 2 ∷ 2 ∷ k.WHITESPACE ∷ 14 ∷ 15 ∷ 2 ∷ 1 ∷ k.RULE_TAGS ∷ 15 ∷ 22 ∷ 2 ∷ 2 ∷ k.COLON ∷ 15 ∷ 16 ∷ 3
      ∷ 2 ∷ k.WHITESPACE ∷ 16 ∷ 17 ∷ 3 ∷ 2 ∷ k.IDENT ∷ 17 ∷ 19 ∷ 3 ∷ 2 ∷ k.WHITESPACE ∷ 19 ∷ 20 ∷ 3 ∷ 2 ∷ k.IDENT ∷ 20 ∷ 22 ∷ 3
      ∷ 3 ∷ k.RULE_TAGS ∷ 15 ∷ 22 ∷ 2 ∷ 2 ∷ k.WHITESPACE ∷ 22 ∷ 23 ∷ 2 ∷ 2 ∷ k.L_BRACE ∷ 23 ∷ 24 ∷ 2 ∷ 2 ∷ k.WHITESPACE ∷ 24 ∷ 25 ∷ 2
      ∷ 1 ∷ k.META_BLK ∷ 25 ∷ 45 ∷ 2 ∷ 2 ∷ k.META_KW ∷ 25 ∷ 29 ∷ 3 ∷ 2 ∷ k.COLON ∷ 29 ∷ 30 ∷ 3 ∷ 2 ∷ k.WHITESPACE ∷ 30 ∷ 31 ∷ 3
      ∷ 1 ∷ k.META_DEF ∷ 31 ∷ 38 ∷ 3 ∷ 2 ∷ k.IDENT ∷ 31 ∷ 32 ∷ 4 ∷ 2 ∷ k.WHITESPACE ∷ 32 ∷ 33 ∷ 4 ∷ 2 ∷ k.EQUAL ∷ 33 ∷ 34 ∷ 4
      ∷ 2 ∷ k.WHITESPACE ∷ 34 ∷ 35 ∷ 4 ∷ 2 ∷ k.STRING_LIT ∷ 35 ∷ 38 ∷ 4 ∷ 3 ∷ k.META_DEF ∷ 31 ∷ 38 ∷ 3 ∷ 2 ∷ k.WHITESPACE ∷ 38 ∷ 39 ∷ 3
      ∷ 1 ∷ k.META_DEF ∷ 39 ∷ 45 ∷ 3 ∷ 2 ∷ k.IDENT ∷ 39 ∷ 40 ∷ 4 ∷ 2 ∷ k.WHITESPACE ∷ 40 ∷ 41 ∷ 4 ∷ 2 ∷ k.EQUAL ∷ 41 ∷ 42 ∷ 4
      ∷ 2 ∷ k.WHITESPACE ∷ 42 ∷ 43 ∷ 4 ∷ 2 ∷ k.MINUS ∷ 43 ∷ 44 ∷ 4 ∷ 2 ∷ k.INTEGER_LIT ∷ 44 ∷ 45 ∷ 4 ∷ 3 ∷ k.META_DEF ∷ 39 ∷ 45 ∷ 3
      ∷ 3 ∷ k.META_BLK ∷ 25 ∷ 45 ∷ 2 ∷ 2 ∷ k.WHITESPACE ∷ 45 ∷ 46 ∷ 2 ∷ 1 ∷ k.PATTERNS_BLK ∷ 46 ∷ 120 ∷ 2 ∷ 2 ∷ k.STRINGS_KW ∷ 46 ∷ 53 ∷ 3
      ∷ 2 ∷ k.COLON ∷ 53 ∷ 54 ∷ 3 ∷ 2 ∷ k.WHITESPACE ∷ 54 ∷ 55 ∷ 3 ∷ 1 ∷ k.PATTERN_DEF ∷ 55 ∷ 77 ∷ 3 ∷ 2 ∷ k.PATTERN_IDENT ∷ 55 ∷ 57 ∷ 4
      ∷ 2 ∷ k.WHITESPACE ∷ 57 ∷ 58 ∷ 4 ∷ 2 ∷ k.EQUAL ∷ 58 ∷ 59 ∷ 4 ∷ 2 ∷ k.WHITESPACE ∷ 59 ∷ 60 ∷ 4 ∷ 2 ∷ k.STRING_LIT ∷ 60 ∷ 63 ∷ 4
      ∷ 2 ∷ k.WHITESPACE ∷ 63 ∷ 64 ∷ 4 ∷ 1 ∷ k.PATTERN_MODS ∷ 64 ∷ 77 ∷ 4 ∷ 1 ∷ k.PATTERN_MOD ∷ 64 ∷ 68 ∷ 5 ∷ 2 ∷ k.WIDE_KW ∷ 64 ∷ 68 ∷ 6
      ∷ 3 ∷ k.PATTERN_MOD ∷ 64 ∷ 68 ∷ 5 ∷ 2 ∷ k.WHITESPACE ∷ 68 ∷ 69 ∷ 5 ∷ 1 ∷ k.PATTERN_MOD ∷ 69 ∷ 77 ∷ 5 ∷ 2 ∷ k.XOR_KW ∷ 69 ∷ 72 ∷ 6
      ∷ 2 ∷ k.L_PAREN ∷ 72 ∷ 73 ∷ 6 ∷ 2 ∷ k.INTEGER_LIT ∷ 73 ∷ 74 ∷ 6 ∷ 2 ∷ k.HYPHEN ∷ 74 ∷ 75 ∷ 6 ∷ 2 ∷ k.INTEGER_LIT ∷ 75 ∷ 76 ∷ 6
      ∷ 2 ∷ k.R_PAREN ∷ 76 ∷ 77 ∷ 6 ∷ 3 ∷ k.PATTERN_MOD ∷ 69 ∷ 77 ∷ 5 ∷ 3 ∷ k.PATTERN_MODS ∷ 64 ∷ 77 ∷ 4 ∷ 3 ∷ k.PATTERN_DEF ∷ 55 ∷ 77 ∷ 3
      ∷ 2 ∷ k.WHITESPACE ∷ 77 ∷ 78 ∷ 3 ∷ 1 ∷ k.PATTERN_DEF ∷ 78 ∷ 110 ∷ 3 ∷ 2 ∷ k.PATTERN_IDENT ∷ 78 ∷ 80 ∷ 4
      ∷ 2 ∷ k.WHITESPACE ∷ 80 ∷ 81 ∷ 4 ∷ 2 ∷ k.EQUAL ∷ 81 ∷ 82 ∷ 4 ∷ 2 ∷ k.WHITESPACE ∷ 82 ∷ 83 ∷ 4 ∷ 1 ∷ k.HEX_PATTERN ∷ 83 ∷ 110 ∷ 4
      ∷ 2 ∷ k.L_BRACE ∷ 83 ∷ 84 ∷ 5 ∷ 2 ∷ k.WHITESPACE ∷ 84 ∷ 85 ∷ 5 ∷ 1 ∷ k.HEX_SUB_PATTERN ∷ 85 ∷ 108 ∷ 5 ∷ 2 ∷ k.HEX_BYTE ∷ 85 ∷ 87 ∷ 6
      ∷ 2 ∷ k.WHITESPACE ∷ 87 ∷ 88 ∷ 6 ∷ 2 ∷ k.HEX_BYTE ∷ 88 ∷ 90 ∷ 6 ∷ 2 ∷ k.WHITESPACE ∷ 90 ∷ 91 ∷ 6 ∷ 1 ∷ k.HEX_JUMP ∷ 91 ∷ 96 ∷ 6
      ∷ 2 ∷ k.L_BRACKET ∷ 91 ∷ 92 ∷ 7 ∷ 2 ∷ k.INTEGER_LIT ∷ 92 ∷ 93 ∷ 7 ∷ 2 ∷ k.HYPHEN ∷ 93 ∷ 94 ∷ 7 ∷ 2 ∷ k.INTEGER_LIT ∷ 94 ∷ 95 ∷ 7
      ∷ 2 ∷ k.R_BRACKET ∷ 95 ∷ 96 ∷ 7 ∷ 3 ∷ k.HEX_JUMP ∷ 91 ∷ 96 ∷ 6 ∷ 2 ∷ k.WHITESPACE ∷ 96 ∷ 97 ∷ 6
      ∷ 1 ∷ k.HEX_ALTERNATIVE ∷ 97 ∷ 108 ∷ 6 ∷ 2 ∷ k.L_PAREN ∷ 97 ∷ 98 ∷ 7 ∷ 2 ∷ k.WHITESPACE ∷ 98 ∷ 99 ∷ 7
      ∷ 1 ∷ k.HEX_SUB_PATTERN ∷ 99 ∷ 101 ∷ 7 ∷ 2 ∷ k.HEX_BYTE ∷ 99 ∷ 101 ∷ 8 ∷ 3 ∷ k.HEX_SUB_PATTERN ∷ 99 ∷ 101 ∷ 7
      ∷ 2 ∷ k.WHITESPACE ∷ 101 ∷ 102 ∷ 7 ∷ 2 ∷ k.PIPE ∷ 102 ∷ 103 ∷ 7 ∷ 2 ∷ k.WHITESPACE ∷ 103 ∷ 104 ∷ 7
      ∷ 1 ∷ k.HEX_SUB_PATTERN ∷ 104 ∷ 106 ∷ 7 ∷ 2 ∷ k.HEX_BYTE ∷ 104 ∷ 106 ∷ 8 ∷ 3 ∷ k.HEX_SUB_PATTERN ∷ 104 ∷ 106 ∷ 7
      ∷ 2 ∷ k.WHITESPACE ∷ 106 ∷ 107 ∷ 7 ∷ 2 ∷ k.R_PAREN ∷ 107 ∷ 108 ∷ 7 ∷ 3 ∷ k.HEX_ALTERNATIVE ∷ 97 ∷ 108 ∷ 6
      ∷ 3 ∷ k.HEX_SUB_PATTERN ∷ 85 ∷ 108 ∷ 5 ∷ 2 ∷ k.WHITESPACE ∷ 108 ∷ 109 ∷ 5 ∷ 2 ∷ k.R_BRACE ∷ 109 ∷ 110 ∷ 5
      ∷ 3 ∷ k.HEX_PATTERN ∷ 83 ∷ 110 ∷ 4 ∷ 3 ∷ k.PATTERN_DEF ∷ 78 ∷ 110 ∷ 3 ∷ 2 ∷ k.WHITESPACE ∷ 110 ∷ 111 ∷ 3
      ∷ 1 ∷ k.PATTERN_DEF ∷ 111 ∷ 120 ∷ 3 ∷ 2 ∷ k.PATTERN_IDENT ∷ 111 ∷ 113 ∷ 4 ∷ 2 ∷ k.WHITESPACE ∷ 113 ∷ 114 ∷ 4
      ∷ 2 ∷ k.EQUAL ∷ 114 ∷ 115 ∷ 4 ∷ 2 ∷ k.WHITESPACE ∷ 115 ∷ 116 ∷ 4 ∷ 2 ∷ k.REGEXP ∷ 116 ∷ 120 ∷ 4 ∷ 3 ∷ k.PATTERN_DEF ∷ 111 ∷ 120 ∷ 3
      ∷ 3 ∷ k.PATTERNS_BLK ∷ 46 ∷ 120 ∷ 2 ∷ 2 ∷ k.WHITESPACE ∷ 120 ∷ 121 ∷ 2 ∷ 1 ∷ k.CONDITION_BLK ∷ 121 ∷ 167 ∷ 2
      ∷ 2 ∷ k.CONDITION_KW ∷ 121 ∷ 130 ∷ 3 ∷ 2 ∷ k.COLON ∷ 130 ∷ 131 ∷ 3 ∷ 2 ∷ k.WHITESPACE ∷ 131 ∷ 132 ∷ 3
      ∷ 1 ∷ k.BOOLEAN_EXPR ∷ 132 ∷ 167 ∷ 3 ∷ 1 ∷ k.BOOLEAN_TERM ∷ 132 ∷ 140 ∷ 4 ∷ 2 ∷ k.PATTERN_IDENT ∷ 132 ∷ 134 ∷ 5
      ∷ 2 ∷ k.WHITESPACE ∷ 134 ∷ 135 ∷ 5 ∷ 2 ∷ k.AT_KW ∷ 135 ∷ 137 ∷ 5 ∷ 2 ∷ k.WHITESPACE ∷ 137 ∷ 138 ∷ 5 ∷ 1 ∷ k.EXPR ∷ 138 ∷ 140 ∷ 5
      ∷ 1 ∷ k.TERM ∷ 138 ∷ 140 ∷ 6 ∷ 2 ∷ k.INTEGER_LIT ∷ 138 ∷ 140 ∷ 7 ∷ 3 ∷ k.TERM ∷ 138 ∷ 140 ∷ 6 ∷ 3 ∷ k.EXPR ∷ 138 ∷ 140 ∷ 5
      ∷ 3 ∷ k.BOOLEAN_TERM ∷ 132 ∷ 140 ∷ 4 ∷ 2 ∷ k.WHITESPACE ∷ 140 ∷ 141 ∷ 4 ∷ 2 ∷ k.AND_KW ∷ 141 ∷ 144 ∷ 4
      ∷ 2 ∷ k.WHITESPACE ∷ 144 ∷ 145 ∷ 4 ∷ 1 ∷ k.BOOLEAN_TERM ∷ 145 ∷ 151 ∷ 4 ∷ 1 ∷ k.EXPR ∷ 145 ∷ 147 ∷ 5 ∷ 1 ∷ k.TERM ∷ 145 ∷ 147 ∷ 6
      ∷ 2 ∷ k.PATTERN_COUNT ∷ 145 ∷ 147 ∷ 7 ∷ 3 ∷ k.TERM ∷ 145 ∷ 147 ∷ 6 ∷ 3 ∷ k.EXPR ∷ 145 ∷ 147 ∷ 5 ∷ 2 ∷ k.WHITESPACE ∷ 147 ∷ 148 ∷ 5
      ∷ 2 ∷ k.GT ∷ 148 ∷ 149 ∷ 5 ∷ 2 ∷ k.WHITESPACE ∷ 149 ∷ 150 ∷ 5 ∷ 1 ∷ k.EXPR ∷ 150 ∷ 151 ∷ 5 ∷ 1 ∷ k.TERM ∷ 150 ∷ 151 ∷ 6
      ∷ 2 ∷ k.INTEGER_LIT ∷ 150 ∷ 151 ∷ 7 ∷ 3 ∷ k.TERM ∷ 150 ∷ 151 ∷ 6 ∷ 3 ∷ k.EXPR ∷ 150 ∷ 151 ∷ 5 ∷ 3 ∷ k.BOOLEAN_TERM ∷ 145 ∷ 151 ∷ 4
      ∷ 2 ∷ k.WHITESPACE ∷ 151 ∷ 152 ∷ 4 ∷ 2 ∷ k.OR_KW ∷ 152 ∷ 154 ∷ 4 ∷ 2 ∷ k.WHITESPACE ∷ 154 ∷ 155 ∷ 4
      ∷ 1 ∷ k.BOOLEAN_TERM ∷ 155 ∷ 167 ∷ 4 ∷ 1 ∷ k.OF_EXPR ∷ 155 ∷ 167 ∷ 5 ∷ 1 ∷ k.QUANTIFIER ∷ 155 ∷ 158 ∷ 6
      ∷ 2 ∷ k.ANY_KW ∷ 155 ∷ 158 ∷ 7 ∷ 3 ∷ k.QUANTIFIER ∷ 155 ∷ 158 ∷ 6 ∷ 2 ∷ k.WHITESPACE ∷ 158 ∷ 159 ∷ 6 ∷ 2 ∷ k.OF_KW ∷ 159 ∷ 161 ∷ 6
      ∷ 2 ∷ k.WHITESPACE ∷ 161 ∷ 162 ∷ 6 ∷ 1 ∷ k.PATTERN_IDENT_TUPLE ∷ 162 ∷ 167 ∷ 6 ∷ 2 ∷ k.L_PAREN ∷ 162 ∷ 163 ∷ 7
      ∷ 2 ∷ k.PATTERN_IDENT ∷ 163 ∷ 165 ∷ 7 ∷ 2 ∷ k.ASTERISK ∷ 165 ∷ 166 ∷ 7 ∷ 2 ∷ k.R_PAREN ∷ 166 ∷ 167 ∷ 7
      ∷ 3 ∷ k.PATTERN_IDENT_TUPLE ∷ 162 ∷ 167 ∷ 6 ∷ 3 ∷ k.OF_EXPR ∷ 155 ∷ 167 ∷ 5 ∷ 3 ∷ k.BOOLEAN_TERM ∷ 155 ∷ 167 ∷ 4
      ∷ 3 ∷ k.BOOLEAN_EXPR ∷ 132 ∷ 167 ∷ 3 ∷ 3 ∷ k.CONDITION_BLK ∷ 121 ∷ 167 ∷ 2 ∷ 2 ∷ k.WHITESPACE ∷ 167 ∷ 168 ∷ 2
      ∷ 2 ∷ k.R_BRACE ∷ 168 ∷ 169 ∷ 2 ∷ 3 ∷ k.RULE_DECL ∷ 0 ∷ 169 ∷ 1 ∷ 3 ∷ k.SOURCE_FILE ∷ 0 ∷ 169 ∷ 0 ∷ [],
)

abbrev two_damaged : Outside
two_damaged = (
  record {
    text = "rule a { condition: ) } junk here rule b { strings: $a condition: $a } rule c { condition: true }";
    ids = k.RULE_KW ∷ k.WHITESPACE ∷ k.IDENT ∷ k.WHITESPACE ∷ k.L_BRACE ∷ k.WHITESPACE ∷ k.CONDITION_KW ∷ k.COLON ∷ k.WHITESPACE ∷ k.R_PAREN
        ∷ k.WHITESPACE ∷ k.R_BRACE ∷ k.WHITESPACE ∷ k.IDENT ∷ k.WHITESPACE ∷ k.IDENT ∷ k.WHITESPACE ∷ k.RULE_KW ∷ k.WHITESPACE ∷ k.IDENT
        ∷ k.WHITESPACE ∷ k.L_BRACE ∷ k.WHITESPACE ∷ k.STRINGS_KW ∷ k.COLON ∷ k.WHITESPACE ∷ k.PATTERN_IDENT ∷ k.WHITESPACE ∷ k.CONDITION_KW
        ∷ k.COLON ∷ k.WHITESPACE ∷ k.PATTERN_IDENT ∷ k.WHITESPACE ∷ k.R_BRACE ∷ k.WHITESPACE ∷ k.RULE_KW ∷ k.WHITESPACE ∷ k.IDENT
        ∷ k.WHITESPACE ∷ k.L_BRACE ∷ k.WHITESPACE ∷ k.CONDITION_KW ∷ k.COLON ∷ k.WHITESPACE ∷ k.TRUE_KW ∷ k.WHITESPACE ∷ k.R_BRACE ∷ [];
    ends = 4 ∷ 5 ∷ 6 ∷ 7 ∷ 8 ∷ 9 ∷ 18 ∷ 19 ∷ 20 ∷ 21 ∷ 22 ∷ 23 ∷ 24 ∷ 28 ∷ 29 ∷ 33 ∷ 34 ∷ 38 ∷ 39 ∷ 40 ∷ 41 ∷ 42 ∷ 43 ∷ 50 ∷ 51 ∷ 52 ∷ 54 ∷ 55
        ∷ 64 ∷ 65 ∷ 66 ∷ 68 ∷ 69 ∷ 70 ∷ 71 ∷ 75 ∷ 76 ∷ 77 ∷ 78 ∷ 79 ∷ 80 ∷ 89 ∷ 90 ∷ 91 ∷ 95 ∷ 96 ∷ 97 ∷ [];
    fuel = 1000;
    outcome = 0;
    covered = 47;
    left = 973;
    events = 83;
    records = 2;
    errors = 20 ∷ 21 ∷ 1 ∷ 1 ∷ 2 ∷ k.EXPRESSION ∷ k.IDENT ∷ 55 ∷ 64 ∷ 1 ∷ 2 ∷ 1 ∷ k.EQUAL ∷ [];
  },
  1 ∷ k.SOURCE_FILE ∷ 0 ∷ 97 ∷ 0 ∷ 1 ∷ k.RULE_DECL ∷ 0 ∷ 23 ∷ 1 ∷ 2 ∷ k.RULE_KW ∷ 0 ∷ 4 ∷ 2 ∷ 2 ∷ k.WHITESPACE ∷ 4 ∷ 5 ∷ 2
      ∷ 2 ∷ k.IDENT ∷ 5 ∷ 6 ∷ 2 ∷ 2 ∷ k.WHITESPACE ∷ 6 ∷ 7 ∷ 2 ∷ 2 ∷ k.L_BRACE ∷ 7 ∷ 8 ∷ 2 ∷ 2 ∷ k.WHITESPACE ∷ 8 ∷ 9 ∷ 2
      ∷ 1 ∷ k.CONDITION_BLK ∷ 9 ∷ 21 ∷ 2 ∷ 2 ∷ k.CONDITION_KW ∷ 9 ∷ 18 ∷ 3 ∷ 2 ∷ k.COLON ∷ 18 ∷ 19 ∷ 3 ∷ 2 ∷ k.WHITESPACE ∷ 19 ∷ 20 ∷ 3
      ∷ 1 ∷ k.ERROR ∷ 20 ∷ 20 ∷ 3 ∷ 1 ∷ k.ERROR ∷ 20 ∷ 20 ∷ 4 ∷ 3 ∷ k.ERROR ∷ 20 ∷ 20 ∷ 4 ∷ 3 ∷ k.ERROR ∷ 20 ∷ 20 ∷ 3
      ∷ 1 ∷ k.ERROR ∷ 20 ∷ 21 ∷ 3 ∷ 2 ∷ k.R_PAREN ∷ 20 ∷ 21 ∷ 4 ∷ 3 ∷ k.ERROR ∷ 20 ∷ 21 ∷ 3 ∷ 3 ∷ k.CONDITION_BLK ∷ 9 ∷ 21 ∷ 2
      ∷ 2 ∷ k.WHITESPACE ∷ 21 ∷ 22 ∷ 2 ∷ 2 ∷ k.R_BRACE ∷ 22 ∷ 23 ∷ 2 ∷ 3 ∷ k.RULE_DECL ∷ 0 ∷ 23 ∷ 1 ∷ 2 ∷ k.WHITESPACE ∷ 23 ∷ 24 ∷ 1
      ∷ 1 ∷ k.ERROR ∷ 24 ∷ 33 ∷ 1 ∷ 2 ∷ k.IDENT ∷ 24 ∷ 28 ∷ 2 ∷ 2 ∷ k.WHITESPACE ∷ 28 ∷ 29 ∷ 2 ∷ 2 ∷ k.IDENT ∷ 29 ∷ 33 ∷ 2
      ∷ 3 ∷ k.ERROR ∷ 24 ∷ 33 ∷ 1 ∷ 4 ∷ 0 ∷ 20 ∷ 21 ∷ 1 ∷ 2 ∷ k.WHITESPACE ∷ 33 ∷ 34 ∷ 1 ∷ 1 ∷ k.RULE_DECL ∷ 34 ∷ 70 ∷ 1
      ∷ 2 ∷ k.RULE_KW ∷ 34 ∷ 38 ∷ 2 ∷ 2 ∷ k.WHITESPACE ∷ 38 ∷ 39 ∷ 2 ∷ 2 ∷ k.IDENT ∷ 39 ∷ 40 ∷ 2 ∷ 2 ∷ k.WHITESPACE ∷ 40 ∷ 41 ∷ 2
      ∷ 2 ∷ k.L_BRACE ∷ 41 ∷ 42 ∷ 2 ∷ 2 ∷ k.WHITESPACE ∷ 42 ∷ 43 ∷ 2 ∷ 1 ∷ k.ERROR ∷ 43 ∷ 54 ∷ 2 ∷ 2 ∷ k.STRINGS_KW ∷ 43 ∷ 50 ∷ 3
      ∷ 2 ∷ k.COLON ∷ 50 ∷ 51 ∷ 3 ∷ 2 ∷ k.WHITESPACE ∷ 51 ∷ 52 ∷ 3 ∷ 1 ∷ k.ERROR ∷ 52 ∷ 54 ∷ 3 ∷ 2 ∷ k.PATTERN_IDENT ∷ 52 ∷ 54 ∷ 4
      ∷ 3 ∷ k.ERROR ∷ 52 ∷ 54 ∷ 3 ∷ 3 ∷ k.ERROR ∷ 43 ∷ 54 ∷ 2 ∷ 2 ∷ k.WHITESPACE ∷ 54 ∷ 55 ∷ 2 ∷ 1 ∷ k.CONDITION_BLK ∷ 55 ∷ 68 ∷ 2
      ∷ 2 ∷ k.CONDITION_KW ∷ 55 ∷ 64 ∷ 3 ∷ 2 ∷ k.COLON ∷ 64 ∷ 65 ∷ 3 ∷ 2 ∷ k.WHITESPACE ∷ 65 ∷ 66 ∷ 3 ∷ 1 ∷ k.BOOLEAN_EXPR ∷ 66 ∷ 68 ∷ 3
      ∷ 1 ∷ k.BOOLEAN_TERM ∷ 66 ∷ 68 ∷ 4 ∷ 2 ∷ k.PATTERN_IDENT ∷ 66 ∷ 68 ∷ 5 ∷ 3 ∷ k.BOOLEAN_TERM ∷ 66 ∷ 68 ∷ 4
      ∷ 3 ∷ k.BOOLEAN_EXPR ∷ 66 ∷ 68 ∷ 3 ∷ 3 ∷ k.CONDITION_BLK ∷ 55 ∷ 68 ∷ 2 ∷ 2 ∷ k.WHITESPACE ∷ 68 ∷ 69 ∷ 2 ∷ 2 ∷ k.R_BRACE ∷ 69 ∷ 70 ∷ 2
      ∷ 3 ∷ k.RULE_DECL ∷ 34 ∷ 70 ∷ 1 ∷ 4 ∷ 1 ∷ 55 ∷ 64 ∷ 1 ∷ 2 ∷ k.WHITESPACE ∷ 70 ∷ 71 ∷ 1 ∷ 1 ∷ k.RULE_DECL ∷ 71 ∷ 97 ∷ 1
      ∷ 2 ∷ k.RULE_KW ∷ 71 ∷ 75 ∷ 2 ∷ 2 ∷ k.WHITESPACE ∷ 75 ∷ 76 ∷ 2 ∷ 2 ∷ k.IDENT ∷ 76 ∷ 77 ∷ 2 ∷ 2 ∷ k.WHITESPACE ∷ 77 ∷ 78 ∷ 2
      ∷ 2 ∷ k.L_BRACE ∷ 78 ∷ 79 ∷ 2 ∷ 2 ∷ k.WHITESPACE ∷ 79 ∷ 80 ∷ 2 ∷ 1 ∷ k.CONDITION_BLK ∷ 80 ∷ 95 ∷ 2 ∷ 2 ∷ k.CONDITION_KW ∷ 80 ∷ 89 ∷ 3
      ∷ 2 ∷ k.COLON ∷ 89 ∷ 90 ∷ 3 ∷ 2 ∷ k.WHITESPACE ∷ 90 ∷ 91 ∷ 3 ∷ 1 ∷ k.BOOLEAN_EXPR ∷ 91 ∷ 95 ∷ 3 ∷ 1 ∷ k.BOOLEAN_TERM ∷ 91 ∷ 95 ∷ 4
      ∷ 2 ∷ k.TRUE_KW ∷ 91 ∷ 95 ∷ 5 ∷ 3 ∷ k.BOOLEAN_TERM ∷ 91 ∷ 95 ∷ 4 ∷ 3 ∷ k.BOOLEAN_EXPR ∷ 91 ∷ 95 ∷ 3
      ∷ 3 ∷ k.CONDITION_BLK ∷ 80 ∷ 95 ∷ 2 ∷ 2 ∷ k.WHITESPACE ∷ 95 ∷ 96 ∷ 2 ∷ 2 ∷ k.R_BRACE ∷ 96 ∷ 97 ∷ 2 ∷ 3 ∷ k.RULE_DECL ∷ 71 ∷ 97 ∷ 1
      ∷ 3 ∷ k.SOURCE_FILE ∷ 0 ∷ 97 ∷ 0 ∷ [],
)

abbrev pub cases : List Outside
cases =
    whole ∷ stopped_early ∷ no_condition ∷ with_in_call ∷ exact_cache ∷ stops_at_recover ∷ all_rows_covered ∷ for_in_failure ∷ with_stray
    ∷ nested_calls ∷ patterns ∷ two_damaged ∷ []
