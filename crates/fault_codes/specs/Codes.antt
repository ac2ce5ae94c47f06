-- The codes of faults, with their names and numbers.
use Rattle.std.specs.Prelude.{ℕ, List, codes}
use Rattle.fault_codes.specs.declared.code.Code.{Code}
use Rattle.fault_codes.specs.declared.code.Code.TheVariants.{XPST0003, XPST0008, XPST0017, XQST0090, XUST0001, XPDY0002, XPTY0004, XPTY0018, XPTY0019, XPTY0020, FOAR0001, FOAR0002, FODC0002, FORG0001, FORG0006, XQTY0024, XQDY0025, XQDY0026, XQDY0041, XQDY0064, XQDY0072, XQDY0074, XUTY0004, XUTY0005, XUTY0006, XUTY0007, XUTY0008, XUTY0010, XUTY0011, XUTY0012, XUTY0022, XUDY0009, XUDY0015, XUDY0016, XUDY0017, XUDY0021, XUDY0027, XUDY0029, XUDY0030, PXQ0001, PXQ0002, PXQ0003, PXQ0004, PXQ0005, XQST0089, XUTY0013, XUDY0014, XUST0002}

-- the name by which XQuery, its Update Facility or this project (PXQ) calls it
abbrev pub code_name : Code → List ℕ
code_name XPST0003 = codes "XPST0003"
code_name XPST0008 = codes "XPST0008"
code_name XPST0017 = codes "XPST0017"
code_name XQST0090 = codes "XQST0090"
code_name XUST0001 = codes "XUST0001"
code_name XPDY0002 = codes "XPDY0002"
code_name XPTY0004 = codes "XPTY0004"
code_name XPTY0018 = codes "XPTY0018"
code_name XPTY0019 = codes "XPTY0019"
code_name XPTY0020 = codes "XPTY0020"
code_name FOAR0001 = codes "FOAR0001"
code_name FOAR0002 = codes "FOAR0002"
code_name FODC0002 = codes "FODC0002"
code_name FORG0001 = codes "FORG0001"
code_name FORG0006 = codes "FORG0006"
code_name XQTY0024 = codes "XQTY0024"
code_name XQDY0025 = codes "XQDY0025"
code_name XQDY0026 = codes "XQDY0026"
code_name XQDY0041 = codes "XQDY0041"
code_name XQDY0064 = codes "XQDY0064"
code_name XQDY0072 = codes "XQDY0072"
code_name XQDY0074 = codes "XQDY0074"
code_name XUTY0004 = codes "XUTY0004"
code_name XUTY0005 = codes "XUTY0005"
code_name XUTY0006 = codes "XUTY0006"
code_name XUTY0007 = codes "XUTY0007"
code_name XUTY0008 = codes "XUTY0008"
code_name XUTY0010 = codes "XUTY0010"
code_name XUTY0011 = codes "XUTY0011"
code_name XUTY0012 = codes "XUTY0012"
code_name XUTY0022 = codes "XUTY0022"
code_name XUDY0009 = codes "XUDY0009"
code_name XUDY0015 = codes "XUDY0015"
code_name XUDY0016 = codes "XUDY0016"
code_name XUDY0017 = codes "XUDY0017"
code_name XUDY0021 = codes "XUDY0021"
code_name XUDY0027 = codes "XUDY0027"
code_name XUDY0029 = codes "XUDY0029"
code_name XUDY0030 = codes "XUDY0030"
code_name PXQ0001 = codes "PXQ0001"
code_name PXQ0002 = codes "PXQ0002"
code_name PXQ0003 = codes "PXQ0003"
code_name PXQ0004 = codes "PXQ0004"
code_name PXQ0005 = codes "PXQ0005"
code_name XQST0089 = codes "XQST0089"
code_name XUTY0013 = codes "XUTY0013"
code_name XUDY0014 = codes "XUDY0014"
code_name XUST0002 = codes "XUST0002"

-- its number in messages (our own)
abbrev pub code_number : Code → ℕ
code_number XPST0003 = 1
code_number XPST0008 = 2
code_number XPST0017 = 3
code_number XQST0090 = 4
code_number XUST0001 = 5
code_number XPDY0002 = 6
code_number XPTY0004 = 7
code_number XPTY0018 = 8
code_number XPTY0019 = 9
code_number XPTY0020 = 10
code_number FOAR0001 = 11
code_number FOAR0002 = 12
code_number FODC0002 = 13
code_number FORG0001 = 14
code_number FORG0006 = 15
code_number XQTY0024 = 16
code_number XQDY0025 = 17
code_number XQDY0026 = 18
code_number XQDY0041 = 19
code_number XQDY0064 = 20
code_number XQDY0072 = 21
code_number XQDY0074 = 22
code_number XUTY0004 = 23
code_number XUTY0005 = 24
code_number XUTY0006 = 25
code_number XUTY0007 = 26
code_number XUTY0008 = 27
code_number XUTY0010 = 28
code_number XUTY0011 = 29
code_number XUTY0012 = 30
code_number XUTY0022 = 31
code_number XUDY0009 = 32
code_number XUDY0015 = 33
code_number XUDY0016 = 34
code_number XUDY0017 = 35
code_number XUDY0021 = 36
code_number XUDY0027 = 37
code_number XUDY0029 = 38
code_number XUDY0030 = 39
code_number PXQ0001 = 40
code_number PXQ0002 = 41
code_number PXQ0003 = 42
code_number PXQ0004 = 43
code_number PXQ0005 = 44
code_number XQST0089 = 45
code_number XUTY0013 = 46
code_number XUDY0014 = 47
code_number XUST0002 = 48
