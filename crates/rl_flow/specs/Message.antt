-- What standard error gets of a refusal.
use Rattle.std.specs.Prelude.{ℕ, List, ◌++◌, codes, decimal}
use Rattle.net_lang.specs.declared.reader.rules.Rule.{Rule}
use Rattle.net_lang.specs.declared.reader.rules.Rule.TheVariants as rule
use Rattle.func_table.specs.declared.reader.rules.Rule.{Rule as TableRule}
use Rattle.func_table.specs.declared.reader.rules.Rule.TheVariants as table_rule
use Rattle.refutation.specs.declared.reader.rules.Rule.{Rule as TreeRule}
use Rattle.refutation.specs.declared.reader.rules.Rule.TheVariants as tree_rule
use Rattle.verilog_text.specs.declared.rule.Rule.{Rule as ModuleRule}
use Rattle.verilog_text.specs.declared.rule.Rule.TheVariants as module_rule
use Rattle.causality.specs.declared.fault.RowFault.{RowFault}
use Rattle.causality.specs.declared.fault.RowFault.TheVariants as row
use Rattle.rl_jobs.specs.declared.fault.Fault.{Fault}
use Rattle.rl_jobs.specs.declared.fault.Fault.TheVariants as fault
use Rattle.rl_flow.specs.declared.refusal.Refusal.{Refusal}
use Rattle.rl_flow.specs.declared.refusal.Refusal.TheVariants as why

-- the program's name, and a text
abbrev pub begin : List ℕ → List ℕ
begin text = codes "racelog: " ++ text

-- a text, a label and a number
abbrev pub numbered : List ℕ → List ℕ → ℕ → List ℕ
numbered text label n = text ++ label ++ decimal n

-- a code, the number of a file, from 1, and what is named of it
abbrev pub in_file : List ℕ → ℕ → List ℕ → ℕ → List ℕ
in_file code file label n = numbered (numbered (begin code) (codes " file ") file) label n

-- the message for a rule that the file of this number breaks at a line
abbrev pub at_line : List ℕ → ℕ → ℕ → List ℕ
at_line code file line = in_file code file (codes " line ") line

-- the code of a rule of networks
abbrev pub rule_text : Rule → List ℕ
rule_text rule.Syntax = codes "E10"
rule_text rule.Name = codes "E11"
rule_text rule.Span = codes "E12"
rule_text rule.Doubled = codes "E13"
rule_text rule.Unknown = codes "E14"
rule_text rule.Count = codes "E15"

-- the code of a rule of tables
abbrev pub table_rule_text : TableRule → List ℕ
table_rule_text table_rule.Syntax = codes "E30"
table_rule_text table_rule.Count = codes "E31"

-- the code of a rule of trees
abbrev pub tree_rule_text : TreeRule → List ℕ
tree_rule_text tree_rule.Syntax = codes "E60"
tree_rule_text tree_rule.Range = codes "E61"
tree_rule_text tree_rule.Long = codes "E62"
tree_rule_text tree_rule.Count = codes "E63"

-- the code of a rule of modules
abbrev pub module_rule_text : ModuleRule → List ℕ
module_rule_text module_rule.Syntax = codes "E70"
module_rule_text module_rule.Name = codes "E71"
module_rule_text module_rule.Order = codes "E72"
module_rule_text module_rule.Width = codes "E73"
module_rule_text module_rule.Limit = codes "E74"

-- the message for rows of a file that aren't sound
abbrev pub row_fault_text : ℕ → RowFault → List ℕ
row_fault_text file (row.NoZero i) = in_file (codes "E32") file (codes " row ") i
row_fault_text file (row.Acausal i k) = numbered (in_file (codes "E33") file (codes " row ") i) (codes " place ") k
row_fault_text file (row.Same i j) = numbered (in_file (codes "E34") file (codes " rows ") i) (codes " ") j
row_fault_text file (row.Conflict i j) = numbered (in_file (codes "E35") file (codes " rows ") i) (codes " ") j

-- the message for what the files hold
abbrev pub fault_text : Fault → List ℕ
fault_text (fault.Network file r line) = at_line (rule_text r) file line
fault_text (fault.Table file r line) = at_line (table_rule_text r) file line
fault_text (fault.Rows file f) = row_fault_text file f
fault_text (fault.Module file r line) = at_line (module_rule_text r) file line
fault_text (fault.Trees file r line) = at_line (tree_rule_text r) file line
fault_text (fault.InputNames place) = numbered (begin (codes "E50")) (codes " input ") place
fault_text (fault.OutputNames place) = numbered (begin (codes "E50")) (codes " output ") place
fault_text fault.TreeNames = begin (codes "E53")
fault_text (fault.TooManyBits bits) = numbered (begin (codes "E20")) (codes " ") bits
fault_text (fault.TooWide window) = numbered (begin (codes "E40")) (codes " ") window
fault_text fault.TooManyRows = numbered (begin (codes "E41")) (codes " ") 256
fault_text (fault.TooLate value) = numbered (begin (codes "E42")) (codes " ") value
fault_text (fault.Inputs count) = numbered (begin (codes "E51")) (codes " ") count
fault_text fault.NoOutput = begin (codes "E52")

-- the message of a refusal
abbrev pub message_of : Refusal → List ℕ
message_of why.Words = begin (codes "usage")
message_of (why.TooLong file limit) = in_file (codes "E01") file (codes " ") limit
message_of (why.Refused f) = fault_text f
message_of (why.ReadFault file) = numbered (begin (codes "read fault")) (codes " file ") file
message_of why.WriteFault = begin (codes "write fault")
message_of why.NoMemory = begin (codes "no memory")

-- the line for standard error
abbrev pub line_of : Refusal → List ℕ
line_of refusal = message_of refusal ++ codes "\n"
