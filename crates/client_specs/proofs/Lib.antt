mod ClientLaws
