mod EveryLaws
